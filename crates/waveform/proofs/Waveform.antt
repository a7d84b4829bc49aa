-- Laws of the dump: what a variable is declared as, and that a value's figures, shortened as they are, read back.
-- Assumes nothing.
use mathlib.Core.Path.{◌≡◌, refl, sym, ap, ◌∙◌}
use mathlib.Core.Bool.{Bool, true, false}
use mathlib.Core.Logic.{◌≢◌}
use mathlib.Core.List.{List, [], ◌∷◌, ◌++◌, map, append_assoc}
use Prim.Native.Nat.{ℕ, zero, suc, ◌+◌, ◌-◌, ◌/◌, ◌%◌, ◌^◌, ◌≤◌, ◌<◌}
use native.Mathlib.Numerals.{add-one}
use native.Mathlib.Omega.{arith}
use borrow.Author.Tests.{lt-ltb, le-ltb, ltb-true, ltb-false, eq-eqb, ne_eqb, eqb-true, eqb-false}
use lib.Dec.{ltb, eqb}
use lib.ListN.{length, get_or, drop, length-append, drop_of_length-le, replicate}
use lib.Seq.{drop-cons}
use Rattle.values.specs.declared.Value.{Value}
use Rattle.values.specs.Values.{pick, ones, all_unknown}
use Rattle.values.specs.Planes.{number_of, marks_of}
use Rattle.writing.specs.Ascii.{ascii, byte}
use Rattle.writing.specs.Numbers.{digit}
use Rattle.writing.specs.Buffer.{Text, puts}
use Rattle.writing.proofs.Buffer.{puts-nil, puts-append}
use Rattle.binary_text.specs.BinaryText.{bit, bits, bits_of, is_known, is_x}
use Rattle.binary_text.proofs.BinaryText.{length-bits, bits-x, bits-zero, replicate-last}
use Rattle.waveform.specs.Waveform.{ident, kind_of, comment_byte, shortened, figures, value_line}
use Rattle.waveform.specs.Claims.{extended, LeftExtended}

-- ---- kind_of: inputs, registers, wires

module _ (inputs registers v : ℕ) where
  pub kind-input : v < inputs → kind_of inputs registers v ≡ ascii "wire"
  unfolding kind_of
  kind-input h = rw (lt-ltb v inputs h)

  pub kind-register : inputs ≤ v → v < inputs + registers → kind_of inputs registers v ≡ ascii "reg"
  unfolding kind_of
  kind-register h l = rw (le-ltb v inputs h, lt-ltb v (inputs + registers) l)

  pub kind-wire : inputs ≤ v → inputs + registers ≤ v → kind_of inputs registers v ≡ ascii "wire"
  unfolding kind_of
  kind-wire h l = rw (le-ltb v inputs h, le-ltb v (inputs + registers) l)

-- ---- comment_byte

module _ (b : ℕ) where
  pub comment-low : b < 32 → comment_byte b ≡ byte "_"
  unfolding comment_byte
  comment-low h = rw (lt-ltb b 32 h)

  pub comment-dollar : 32 ≤ b → b ≡ byte "$" → comment_byte b ≡ byte "_"
  unfolding comment_byte
  comment-dollar h e = rw (le-ltb b 32 h, eq-eqb b (byte "$") e)

  pub comment-other : 32 ≤ b → b ≢ byte "$" → comment_byte b ≡ b
  unfolding comment_byte
  comment-other h e = rw (le-ltb b 32 h, ne_eqb b (byte "$") e)

-- One byte of a comment written, and the rest to come.
pub comment-step : (t u : Text) (file : List ℕ) (i : ℕ) → i < length file → u ≡ puts t (comment_byte (get_or file i 0) ∷ [])
    → puts u (map comment_byte (drop (i + 1) file)) ≡ puts t (map comment_byte (drop i file))
comment-step t u file i h e =
    let rest = map comment_byte (drop (suc i) file) in
    rw (add-one, drop-cons file i 0 h)
    (ap (λ x. puts x rest) e ∙ sym (puts-append t (comment_byte (get_or file i 0) ∷ []) rest))

pub comment-end : (t : Text) (file : List ℕ) (i : ℕ) → length file ≤ i → puts t (map comment_byte (drop i file)) ≡ t
comment-end t file i h = rw (drop_of_length-le file h) (puts-nil t)

-- ---- shortened

module _ (w n : ℕ) where
  pub shortened-none : w ≡ 0 → shortened w n ≡ []
  unfolding shortened
  shortened-none e = rw e refl

  pub shortened-one : w ≢ 0 → n < 2 → shortened w n ≡ digit n ∷ []
  unfolding shortened
  shortened-one h l = let e : w ≡ suc (w - 1) = omega (arith, h) in rw (e, lt-ltb n 2 l)

  pub shortened-more : w ≢ 0 → 2 ≤ n → shortened w n ≡ shortened (w - 1) (n / 2) ++ (digit (n % 2) ∷ [])
  unfolding shortened
  shortened-more h l = by w refl
    where
      by : (k : ℕ) → w ≡ k → shortened k n ≡ shortened (k - 1) (n / 2) ++ (digit (n % 2) ∷ [])
      by zero e = absurd (h e)
      by (suc k) e = let z : suc k - 1 ≡ k = omega arith in rw (z, le-ltb n 2 l)

-- ---- the claim

zeros-extended : (w n : ℕ) → replicate (w - length (shortened w n)) (byte "0") ++ shortened w n ≡ bits w n 0
unfolding shortened bits bit
zeros-extended zero n = refl
zeros-extended (suc w) n = by (ltb n 2) refl (zeros-extended w (n / 2))
  where
    by : (x : Bool) → ltb n 2 ≡ x
        → replicate (w - length (shortened w (n / 2))) (byte "0") ++ shortened w (n / 2) ≡ bits w (n / 2) 0
        → replicate (suc w - length (pick x (digit n ∷ []) (shortened w (n / 2) ++ (digit (n % 2) ∷ [])))) (byte "0")
        ++ pick x (digit n ∷ []) (shortened w (n / 2) ++ (digit (n % 2) ∷ []))
        ≡ bits w (n / 2) 0 ++ (digit (n % 2) ∷ [])
    by true q rest =
        let l = ltb-true n 2 q in
        let z : n / 2 ≡ 0 = omega arith in
        let o : n % 2 ≡ n = omega arith in
        let k : suc w - 1 ≡ w = omega arith in
        rw (z, o, k, bits-zero w)
    by false q rest =
        let s = shortened w (n / 2) in
        let d = digit (n % 2) ∷ [] in
        let k : suc w - length (s ++ d) ≡ w - length s = rw length-append (omega arith) in
        rw k (sym (append_assoc (replicate (w - length s) (byte "0")) s d) ∙ ap (λ l. l ++ d) rest)

-- The first figure of a known value isn't x.
first-append : (l : List ℕ) (d : ℕ) → get_or l 0 0 < byte "x" → d < byte "x" → get_or (l ++ (d ∷ [])) 0 0 < byte "x"
first-append [] d h k = k
first-append (x ∷ l) d h k = h

first-digit : (w n : ℕ) → get_or (shortened w n) 0 0 < byte "x"
unfolding shortened
first-digit zero n = omega arith
first-digit (suc w) n = by (ltb n 2) refl (first-append (shortened w (n / 2)) (digit (n % 2)) (first-digit w (n / 2)) (omega arith))
  where
    by : (x : Bool) → ltb n 2 ≡ x → get_or (shortened w (n / 2) ++ (digit (n % 2) ∷ [])) 0 0 < byte "x"
        → get_or (pick x (digit n ∷ []) (shortened w (n / 2) ++ (digit (n % 2) ∷ []))) 0 0 < byte "x"
    by true q rest = let l = ltb-true n 2 q in omega arith
    by false q rest = rest

ones-32 : (w : ℕ) → w ≤ 32 → ones w ≡ 2 ^ w - 1
unfolding ones
ones-32 w h = by (ltb w 32) refl
  where
    by : (x : Bool) → ltb w 32 ≡ x → pick x (2 ^ w - 1) (2 ^ 32 - 1) ≡ 2 ^ w - 1
    by true q = refl
    by false q =
        let l = ltb-false w 32 q in
        let e : w ≡ 32 = omega arith in
        rw e refl

x-extended : (w : ℕ) → w ≢ 0 → replicate (w - 1) (byte "x") ++ (byte "x" ∷ []) ≡ replicate w (byte "x")
x-extended zero h = absurd (h refl)
x-extended (suc w) h = let k : suc w - 1 ≡ w = omega arith in rw k (replicate-last w (byte "x"))

pub left-extended : LeftExtended
unfolding extended figures bits_of is_known is_x marks_of number_of all_unknown
left-extended w a h = by (eqb a.unknown 0) refl (eqb a.unknown (ones w)) refl
  where
    by : (x : Bool) → eqb a.unknown 0 ≡ x → (y : Bool) → eqb a.unknown (ones w) ≡ y
        → extended w (pick x (shortened w a.number) (pick y (byte "x" ∷ []) (bits w a.number a.unknown)))
        ≡ bits w a.number a.unknown
    by true p y q =
        let s = shortened w a.number in
        let low = first-digit w a.number in
        rw (eqb-true a.unknown 0 p, ne_eqb (get_or s 0 0) (byte "x") (λ e. omega (arith, e, low))) (zeros-extended w a.number)
    by false p true q =
        let some : a.unknown ≢ 0 = eqb-false a.unknown 0 p in
        let all = eqb-true a.unknown (ones w) q ∙ ones-32 w h in
        rw (all, bits-x w a.number) (x-extended w (λ e. some (all ∙ rw e refl)))
    by false p false q =
        let k : w - length (bits w a.number a.unknown) ≡ 0 = rw (length-bits w a.number a.unknown) (omega arith) in
        rw k refl

-- ---- value_line: one bit, more bits

module _ (w v : ℕ) (a : Value) where
  pub value-bit : w ≡ 1 → value_line w v a ≡ figures w a ++ (ident v ∷ byte "\n" ∷ [])
  unfolding value_line
  value-bit e = rw (eq-eqb w 1 e)

  pub value-bits : w ≢ 1
      → value_line w v a ≡ (byte "b" ∷ []) ++ (figures w a ++ ((byte " " ∷ []) ++ (ident v ∷ byte "\n" ∷ [])))
  unfolding value_line
  value-bits e = rw (ne_eqb w 1 e)
