-- Laws of numerals: cut on the way or at the end, a number is the same; what is asked of all digits. Assumes nothing.
use mathlib.Core.Path.{◌≡◌, refl, sym, ap, ◌∙◌}
use mathlib.Core.Bool.{Bool, true, false}
use mathlib.Core.List.{List, [], ◌∷◌}
use Prim.Native.Nat.{ℕ, ◌+◌, ◌*◌, ◌/◌, ◌%◌, ◌<◌, ◌≤◌}
use native.Mathlib.Nat.{mod-mod, mod-eq_of_lt, add-mul, mul_right_comm, mul-le-mul, add-mul-mod_self_right, div-add-mod'}
use native.Mathlib.Numerals.{add-one}
use native.Mathlib.Omega.{arith}
use borrow.Author.Tests.{lt-ltb, le-ltb, ltb-false, eq-eqb, ne_eqb}
use lib.Dec.{ltb}
use lib.ListN.{length, get_or, drop, drop_of_length-le}
use lib.Seq.{drop-cons}
use Rattle.values.specs.Values.{pick}
use Rattle.hextext.specs.Characters.{digit_of}
use Rattle.verilog_tokens.specs.Characters.{is_underscore, is_below, is_x, every, with_digit, numeral_from, numeral}
use Rattle.verilog_tokens.specs.Tokens.{number_token, opens_zero, is_known, is_unknown}
use Rattle.verilog_tokens.specs.Table.{kind_of, up_to255}

-- ---- cuts: done twice they do no more, and a digit behind a cut number makes what it makes behind the number, cut

pub record Cut (radix : ℕ) (cut : ℕ → ℕ) : Type 0 where
  pub once : (n : ℕ) → cut (cut n) ≡ cut n
  pub early : (n b : ℕ) → cut (with_digit radix (cut n) b) ≡ cut (with_digit radix n b)

module _ {radix : ℕ} {cut : ℕ → ℕ} (C : Cut radix cut) where
  cut-early : (s : List ℕ) (n : ℕ) → cut (numeral_from radix (cut n) s) ≡ cut (numeral_from radix n s)
  unfolding numeral_from
  cut-early [] n = C.once n
  cut-early (b ∷ s) n =
      sym (cut-early s (with_digit radix (cut n) b))
      ∙ ap (λ x. cut (numeral_from radix x s)) (C.early n b)
      ∙ cut-early s (with_digit radix n b)

  -- A loop over the digits stands at `i` with the number `n`.
  module _ (digits : List ℕ) (i n : ℕ) where
    abbrev pub Counted : Type 0
    Counted = (cut n ≡ n) × (cut (numeral_from radix n (drop i digits)) ≡ cut (numeral radix digits))

    pub count_next : Counted → i < length digits → (m : ℕ) → m ≡ cut (with_digit radix n (get_or digits i 0)) →
        (cut m ≡ m) × (cut (numeral_from radix m (drop (i + 1) digits)) ≡ cut (numeral radix digits))
    unfolding numeral_from
    count_next p l m e =
        let d = with_digit radix n (get_or digits i 0) in
        let s = drop (i + 1) digits in
        let turn : cut (numeral_from radix d s) ≡ cut (numeral_from radix n (drop i digits)) =
        rw (drop-cons digits i 0 l, add-one i) in (
          ap cut e ∙ C.once d ∙ sym e,
          ap (λ x. cut (numeral_from radix x s)) e ∙ cut-early s d ∙ turn ∙ p.1,
        )

    pub count-done : Counted → length digits ≤ i → n ≡ cut (numeral radix digits)
    unfolding numeral_from
    count-done p l = sym p.0 ∙ sym (rw (drop_of_length-le digits l)) ∙ p.1

-- ---- up to 255

up-once : (n : ℕ) → up_to255 (up_to255 n) ≡ up_to255 n
unfolding up_to255
up-once n = by (ltb n 255) refl
  where
    by : (t : Bool) → ltb n 255 ≡ t → pick (ltb (pick t n 255) 255) (pick t n 255) 255 ≡ pick t n 255
    by true e = rw e
    by false e = refl

up_more : (n d : ℕ) → up_to255 (up_to255 n * 10 + d) ≡ up_to255 (n * 10 + d)
unfolding up_to255
up_more n d = by (ltb n 255) refl
  where
    by : (t : Bool) → ltb n 255 ≡ t →
        pick (ltb (pick t n 255 * 10 + d) 255) (pick t n 255 * 10 + d) 255 ≡ pick (ltb (n * 10 + d) 255) (n * 10 + d) 255
    by true e = refl
    by false e =
        let h = ltb-false n 255 e in
        rw (le-ltb (255 * 10 + d) 255 (omega arith), le-ltb (n * 10 + d) 255 (omega arith))

up-early : (n b : ℕ) → up_to255 (with_digit 10 (up_to255 n) b) ≡ up_to255 (with_digit 10 n b)
unfolding with_digit
up-early n b = by (is_underscore b) (digit_of b)
  where
    by : (t : Bool) (d : ℕ) → up_to255 (pick t (up_to255 n) (up_to255 n * 10 + d)) ≡ up_to255 (pick t n (n * 10 + d))
    by true d = up-once n
    by false d = up_more n d

pub up-to : Cut 10 up_to255
up-to = record { once = up-once; early = up-early }

pub up_start : (digits : List ℕ) → (up_to255 0 ≡ 0) × (up_to255 (numeral_from 10 0 digits) ≡ up_to255 (numeral 10 digits))
unfolding up_to255 numeral
up_start digits = (refl, refl)

-- ---- cut to 32 bits

abbrev pub cut32 : ℕ → ℕ
cut32 n = n % 4294967296

mod-more : (n r d m : ℕ) → (n % m * r + d) % m ≡ (n * r + d) % m
mod-more n r d m =
    let q = n / m in
    let p = n % m in
    let e : n * r ≡ q * r * m + p * r =
    ap (λ x. x * r) (sym (div-add-mod' n m)) ∙ add-mul (q * m) p r ∙ ap (λ x. x + p * r) (mul_right_comm q m r) in
    let k : n * r + d ≡ p * r + d + q * r * m = omega arith in
    sym (ap (λ x. x % m) k ∙ add-mul-mod_self_right (p * r + d) (q * r) m)

module _ (radix : ℕ) where
  pub cut-32 : Cut radix cut32
  unfolding with_digit
  cut-32 = record { once = λ n. mod-mod n 4294967296; early = λ n b. by (is_underscore b) n (digit_of b) }
    where
      by : (t : Bool) (n d : ℕ) → cut32 (pick t (cut32 n) (cut32 n * radix + d)) ≡ cut32 (pick t n (n * radix + d))
      by true n d = mod-mod n 4294967296
      by false n d = mod-more n radix d 4294967296

  pub cut-start : (digits : List ℕ) → (cut32 0 ≡ 0) × (cut32 (numeral_from radix 0 digits) ≡ cut32 (numeral radix digits))
  unfolding numeral
  cut-start digits = (refl, refl)

  module _ (n b : ℕ) where
    pub shifted_none : n < 4294967296 → b ≡ 95 → n ≡ cut32 (with_digit radix n b)
    unfolding with_digit is_underscore
    shifted_none h e = rw (eq-eqb b 95 e) (sym (mod-eq_of_lt h))

    pub shifted-more : (m : ℕ) → (b ≡ 95 → ⊥) → m ≡ n * radix + digit_of b → cut32 m ≡ cut32 (with_digit radix n b)
    unfolding with_digit is_underscore
    shifted-more m h e = rw (ne_eqb b 95 h, ← e)

-- A number of 32 bits times a byte.
pub product-few : (n r : ℕ) → n < 4294967296 → r < 256 → n * r ≤ 4294967296 * 256
product-few n r h k =
    let a : n ≤ 4294967296 = omega arith in
    let b : r ≤ 256 = omega arith in
    mul-le-mul a b

-- ---- every

module _ (test : ℕ → Bool) (s : List ℕ) (i : ℕ) where
  pub every-next : i < length s → test (get_or s i 0) ≡ true → every test (drop (i + 1) s) ≡ every test (drop i s)
  unfolding every
  every-next l e = rw (drop-cons s i 0 l, e, add-one i)

  pub every-fails : i < length s → test (get_or s i 0) ≡ false → false ≡ every test (drop i s)
  unfolding every
  every-fails l e = rw (drop-cons s i 0 l, e)

  pub every-done : length s ≤ i → true ≡ every test (drop i s)
  unfolding every
  every-done l = rw (drop_of_length-le s l)
