-- Laws of is_text: what each character says of the rest of a list. Assumes nothing.
use mathlib.Core.Path.{◌≡◌}
use mathlib.Core.Bool.{true, false}
use mathlib.Core.List.{List}
use Prim.Native.Nat.{ℕ, ◌+◌, ◌<◌, ◌≤◌}
use native.Mathlib.Numerals.{add-one}
use borrow.Author.Tests.{lt-ltb, le-ltb, eq-eqb, ne_eqb}
use lib.ListN.{length, get_or, drop, drop_of_length-le}
use lib.Seq.{drop-cons}
use Rattle.hextext.specs.Characters.{digit_of, is_digit, is_gap, is_text}

-- ---- is_digit, from the digit's value

pub digit-is : (b : ℕ) → digit_of b < 16 → is_digit b ≡ true
unfolding is_digit
digit-is b h = lt-ltb _ _ h

pub digit_not : (b : ℕ) → 16 ≤ digit_of b → is_digit b ≡ false
unfolding is_digit
digit_not b h = le-ltb _ _ h

-- ---- is_text, from the i-th character on

module _ (s : List ℕ) (i : ℕ) (l : i < length s) where
  pub text-mark : get_or s i 0 ≡ 35 → is_text (drop i s) ≡ true
  unfolding is_text
  text-mark e = rw (drop-cons s i 0 l, eq-eqb (get_or s i 0) 35 e)

  pub text-digit : (get_or s i 0 ≡ 35 → ⊥) → is_digit (get_or s i 0) ≡ true → is_text (drop i s) ≡ true
  unfolding is_text
  text-digit n e = rw (drop-cons s i 0 l, ne_eqb (get_or s i 0) 35 n, e)

  pub text-other :
      (get_or s i 0 ≡ 35 → ⊥) → is_digit (get_or s i 0) ≡ false → is_gap (get_or s i 0) ≡ false → is_text (drop i s) ≡ false
  unfolding is_text
  text-other n e f = rw (drop-cons s i 0 l, ne_eqb (get_or s i 0) 35 n, e, f)

  pub text-gap :
      (get_or s i 0 ≡ 35 → ⊥) → is_digit (get_or s i 0) ≡ false → is_gap (get_or s i 0) ≡ true →
      is_text (drop i s) ≡ is_text (drop (i + 1) s)
  unfolding is_text
  text-gap n e f = rw (drop-cons s i 0 l, ne_eqb (get_or s i 0) 35 n, e, f, add-one i)

pub text-end : (s : List ℕ) (i : ℕ) → length s ≤ i → is_text (drop i s) ≡ false
unfolding is_text
text-end s i l = rw (drop_of_length-le s l)
