-- Laws of numbers: one digit more, and the end of the digits. Assumes nothing.
use Rattle.std.specs.Prelude.{Option, Some, None}
use mathlib.Core.Path.{◌≡◌, refl, ap}
use mathlib.Core.Bool.{Bool, true, false, ◌&&◌}
use mathlib.Core.List.{List}
use Rattle.values.specs.Values.{pick}
use Prim.Native.Nat.{ℕ, suc, ◌+◌, ◌*◌, ◌<◌, ◌≤◌}
use native.Mathlib.Numerals.{add-one}
use native.Mathlib.Omega.{arith}
use borrow.Author.Tests.{lt-ltb, le-ltb, ltb-true}
use lib.Dec.{ltb}
use lib.ListN.{length, get_or, drop, drop_of_length-le}
use lib.Seq.{drop-cons}
use Rattle.hextext.specs.Characters.{digit_of}
use Rattle.stimulus.specs.declared.Number.{Number}
use Rattle.stimulus.specs.declared.Bits.{Bits}
use Rattle.stimulus.specs.Numbers.{number, base, grown, grown_by}
use Rattle.stimulus.specs.Numbers.{is_letter_b, is_bits, quote_at, is_sized, spelt, spelt_by}

-- ---- grown: the three rows, for either base

module _ (hex t : Bool) (p : hex ≡ t) (a : Number) (b : ℕ) where
  pub grown-bad : base t ≤ digit_of b → number false 0 ≡ grown hex a b
  unfolding grown
  grown-bad h = rw (p, le-ltb (digit_of b) (base t) h)

  pub grown-more :
      (w : ℕ) → w ≡ digit_of b → digit_of b < base t → a.n < 4294967296 →
      number a.good (a.n * base t + w) ≡ grown hex a b
  unfolding grown
  grown-more w e h l = rw (p, e, lt-ltb (digit_of b) (base t) h, lt-ltb a.n 4294967296 l)

  pub grown-full : digit_of b < base t → 4294967296 ≤ a.n → a ≡ grown hex a b
  unfolding grown
  grown-full h l = rw (p, lt-ltb (digit_of b) (base t) h, le-ltb a.n 4294967296 l)

-- ---- grown_by

module _ (hex : Bool) (a : Number) (word : List ℕ) (i : ℕ) where
  pub grown-turn :
      i < length word → grown_by hex a (drop i word) ≡ grown_by hex (grown hex a (get_or word i 0)) (drop (i + 1) word)
  unfolding grown_by
  grown-turn l = rw (drop-cons word i 0 l, add-one i)

  pub grown-done : length word ≤ i → grown_by hex a (drop i word) ≡ a
  unfolding grown_by
  grown-done l = rw (drop_of_length-le word l)

-- ---- is_bits, is_sized

-- A word and what a search for its quote gives.
abbrev tag : Option ℕ → ℕ
tag None = 0
tag (Some q) = suc q

module _ (word : List ℕ) where
  pub bits-long : is_bits word ≡ true → 1 < length word
  unfolding is_bits
  bits-long h = by (ltb 1 (length word)) refl h
    where
      by : (x : Bool) → ltb 1 (length word) ≡ x → (x && is_letter_b (get_or word 0 0)) ≡ true → 1 < length word
      by true p h = ltb-true 1 (length word) p
      by false p h = let z : ◌≡◌ {A = ℕ} 0 1 = cc in absurd (omega arith)

  module _ (q : ℕ) where
    pub sized-some : Some q ≡ pick (is_sized word) (Some (quote_at word)) None → (is_sized word ≡ true) × (q ≡ quote_at word)
    sized-some e = by (is_sized word) refl (ap tag e)
      where
        by : (t : Bool) → is_sized word ≡ t → suc q ≡ tag (pick t (Some (quote_at word)) None) → (is_sized word ≡ true) × (q ≡ quote_at word)
        by true p e = (p, omega arith)
        by false p e = absurd (omega arith)

  pub sized-none : None ≡ pick (is_sized word) (Some (quote_at word)) None → is_sized word ≡ false
  sized-none e = by (is_sized word) refl (ap tag e)
    where
      by : (t : Bool) → is_sized word ≡ t → 0 ≡ tag (pick t (Some (quote_at word)) None) → is_sized word ≡ false
      by true p e = absurd (omega arith)
      by false p e = p

  module _ (q : ℕ) (e : q ≡ quote_at word) where
    pub sized-long : is_sized word ≡ true → q + 2 < length word
    unfolding is_sized
    sized-long h = by (ltb 0 q) (ltb (q + 2) (length word)) refl (rw (← e) at h)
      where
        by : (x y : Bool) → ltb (q + 2) (length word) ≡ y → (x && y && is_letter_b (get_or word (q + 1) 0)) ≡ true → q + 2 < length word
        by x true p h = ltb-true (q + 2) (length word) p
        by true false p h = let z : ◌≡◌ {A = ℕ} 0 1 = cc in absurd (omega arith)
        by false false p h = let z : ◌≡◌ {A = ℕ} 0 1 = cc in absurd (omega arith)

-- ---- spelt_by

module _ (a : Bits) (word : List ℕ) (i : ℕ) where
  pub spelt-turn : i < length word → spelt_by a (drop i word) ≡ spelt_by (spelt a (get_or word i 0)) (drop (i + 1) word)
  unfolding spelt_by
  spelt-turn l = rw (drop-cons word i 0 l, add-one i)

  pub spelt-done : length word ≤ i → spelt_by a (drop i word) ≡ a
  unfolding spelt_by
  spelt-done l = rw (drop_of_length-le word l)
