-- Laws of values behind a base, row by row. Assumes nothing.
use mathlib.Core.Path.{◌≡◌, refl, sym, ap, ◌∙◌}
use mathlib.Core.Bool.{Bool, true, false}
use mathlib.Core.List.{List, [], ◌∷◌}
use Prim.Native.Nat.{ℕ, suc, ◌+◌, ◌-◌, ◌%◌, ◌<◌, ◌≤◌}
use native.Mathlib.Numerals.{add-one}
use native.Mathlib.Omega.{arith}
use borrow.Author.Tests.{eq-eqb, ne_eqb}
use lib.Dec.{eqb}
use lib.ListN.{length, get_or, take, drop, drop_of_length-le}
use lib.Seq.{drop-cons, drop-drop}
use Rattle.values.specs.Values.{pick}
use Rattle.verilog_tokens.specs.declared.Class.TheVariants.{Space, Decimal, Binary, Octal, Hexadecimal, Underscore}
use Rattle.verilog_tokens.specs.Characters.{is_x, is_underscore, span, run_end, every, numeral}
use Rattle.verilog_tokens.specs.Tokens.{Base, base, none, binary, octal, decimal, hexadecimal, Radix, base_of, radix_of, decimal_digits}
use Rattle.verilog_tokens.specs.Tokens.{digits_in, is_known, is_unknown, value_token, value_behind, value, based}
use Rattle.verilog_tokens.specs.Table.{kind_of, number_in}
use Rattle.verilog_tokens.specs.Pieces.{piece, piece_of, piece_in, radix_in, digits_by}
use Rattle.verilog_tokens.proofs.Runs.{span-few}

-- ---- where the digits end

module _ (text : List ℕ) (at : ℕ) where
  pub decimal-past : length text ≤ at → at ≡ at + decimal_digits (drop at text)
  unfolding decimal_digits
  decimal-past l = rw (drop_of_length-le text l) (omega arith)

  pub decimal-x : at < length text → is_x (get_or text at 0) ≡ true → run_end Underscore text (at + 1) ≡ at + decimal_digits (drop at text)
  unfolding decimal_digits run_end
  decimal-x l e = rw (drop-cons text at 0 l, e, add-one at) (omega arith)

  pub decimal-digits : at < length text → is_x (get_or text at 0) ≡ false → run_end Decimal text at ≡ at + decimal_digits (drop at text)
  unfolding decimal_digits run_end
  decimal-digits l e = rw (drop-cons text at 0 l, e)

decimal-few : (s : List ℕ) → decimal_digits s ≤ length s
unfolding decimal_digits
decimal-few [] = omega arith
decimal-few (b ∷ s) = by (is_x b) (span-few Underscore s) (span-few Decimal (b ∷ s))
  where
    by : (t : Bool) → span Underscore s ≤ length s → span Decimal (b ∷ s) ≤ suc (length s) →
        pick t (1 + span Underscore s) (span Decimal (b ∷ s)) ≤ suc (length s)
    by true h k = omega arith
    by false h k = k

pub digits-few : (radix : ℕ) (s : List ℕ) → digits_by radix s ≤ length s
unfolding digits_by
digits-few radix s = by (eqb radix 2) (eqb radix 8) (eqb radix 10)
  where
    by : (t u v : Bool) → pick t (span Binary s) (pick u (span Octal s) (pick v (decimal_digits s) (span Hexadecimal s))) ≤ length s
    by true u v = span-few Binary s
    by false true v = span-few Octal s
    by false false true = decimal-few s
    by false false false = span-few Hexadecimal s

pub digits-by : (r : Radix) (s : List ℕ) → digits_by (radix_of r) s ≡ digits_in r s
unfolding digits_by radix_of digits_in
digits-by binary s = refl
digits-by octal s = refl
digits-by decimal s = refl
digits-by hexadecimal s = refl

-- ---- value_token

module _ (radix size : ℕ) where
  pub value-empty : (digits : List ℕ) → length digits ≡ 0 → piece 69 0 size ≡ piece_of (value_token radix digits) size
  unfolding piece_of value_token kind_of number_in
  value-empty [] e = refl
  value-empty (b ∷ s) e = absurd (omega arith)

  pub value-underscore : (digits : List ℕ) → (length digits ≡ 0 → ⊥) → get_or digits 0 0 ≡ 95 →
      piece 69 0 size ≡ piece_of (value_token radix digits) size
  unfolding piece_of value_token kind_of number_in is_underscore
  value-underscore [] h e = absurd (h refl)
  value-underscore (b ∷ s) h e = rw (eq-eqb b 95 e)

  pub value-known : (digits : List ℕ) → (length digits ≡ 0 → ⊥) → (get_or digits 0 0 ≡ 95 → ⊥) → every (is_known radix) digits ≡ true →
      (n : ℕ) → n ≡ numeral radix digits % 4294967296 → piece 67 n size ≡ piece_of (value_token radix digits) size
  unfolding piece_of value_token kind_of number_in is_underscore
  value-known [] h k e n q = absurd (h refl)
  value-known (b ∷ s) h k e n q = rw (ne_eqb b 95 k, e, q)

  pub value-unknown : (digits : List ℕ) → (length digits ≡ 0 → ⊥) → (get_or digits 0 0 ≡ 95 → ⊥) → every (is_known radix) digits ≡ false →
      every is_unknown digits ≡ true → piece 68 0 size ≡ piece_of (value_token radix digits) size
  unfolding piece_of value_token kind_of number_in is_underscore
  value-unknown [] h k e f = absurd (h refl)
  value-unknown (b ∷ s) h k e f = rw (ne_eqb b 95 k, e, f)

  pub value-mixed : (digits : List ℕ) → (length digits ≡ 0 → ⊥) → (get_or digits 0 0 ≡ 95 → ⊥) → every (is_known radix) digits ≡ false →
      every is_unknown digits ≡ false → piece 69 0 size ≡ piece_of (value_token radix digits) size
  unfolding piece_of value_token kind_of number_in is_underscore
  value-mixed [] h k e f = absurd (h refl)
  value-mixed (b ∷ s) h k e f = rw (ne_eqb b 95 k, e, f)

-- ---- based

module _ (text : List ℕ) (at : ℕ) where
  pub based-end : length text ≤ at → piece 69 0 1 ≡ piece_in (based (drop at text))
  unfolding piece_in piece_of based kind_of number_in
  based-end l = rw (drop_of_length-le text l)

  module _ (l : at < length text) (radix : ℕ) (q : radix ≡ radix_in (base_of (get_or text at 0))) where
    pub based-none : radix ≡ 0 → piece 69 0 1 ≡ piece_in (based (drop at text))
    unfolding based value radix_in radix_of piece_in piece_of kind_of number_in
    based-none e = rw (drop-cons text at 0 l) (by (base_of (get_or text at 0)) (sym q ∙ e))
      where
        by : (B : Base) → radix_in B ≡ 0 → piece 69 0 1 ≡ piece_in (value B (drop (suc at) text))
        by none e = refl
        by (base binary) e = absurd (omega arith)
        by (base octal) e = absurd (omega arith)
        by (base decimal) e = absurd (omega arith)
        by (base hexadecimal) e = absurd (omega arith)

    pub based-value : (radix ≡ 0 → ⊥) → (from end : ℕ) → from ≡ run_end Space text (at + 1) → end ≡ from + digits_by radix (drop from text) →
        piece_of (value_token radix (take (end - from) (drop from text))) (end - at + 1) ≡ piece_in (based (drop at text))
    unfolding based value value_behind radix_in run_end piece_in
    based-value h from end f g = rw (drop-cons text at 0 l, ← add-one at) (by (base_of (get_or text at 0)) q)
      where
        by : (B : Base) → radix ≡ radix_in B →
            piece_of (value_token radix (take (end - from) (drop from text))) (end - at + 1) ≡ piece_in (value B (drop (at + 1) text))
        by none e = absurd (h e)
        by (base r) e =
            let s = drop (at + 1) text in
            let n = span Space s in
            let d : drop from text ≡ drop n s = ap (λ x. drop x text) f ∙ sym (drop-drop n (at + 1) text) in
            let k : digits_by radix (drop from text) ≡ digits_in r (drop n s) =
            ap (λ x. digits_by x (drop from text)) e ∙ ap (digits_by (radix_of r)) d ∙ digits-by r (drop n s) in
            let z : end - from ≡ digits_in r (drop n s) = omega arith in
            let w : end - at + 1 ≡ 2 + n + digits_in r (drop n s) = omega arith in
            rw (e, z, d, w)
