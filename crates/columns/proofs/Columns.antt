-- The definitions from what the calls answer, row by row. Assumes nothing.
use mathlib.Core.Path.{◌≡◌}
use mathlib.Core.Bool.{Bool, true, false}
use mathlib.Core.List.{List}
use Prim.Native.Nat.{ℕ, zero, suc, ◌+◌, ◌-◌, ◌<◌, ◌≤◌}
use native.Mathlib.Numerals.{add-one}
use native.Mathlib.Omega.{arith}
use borrow.Author.Tests.{lt-ltb, le-ltb}
use lib.ListN.{length, set}
use lib.Seq.{sets}
use Rattle.values.specs.Values.{pick}
use Rattle.stimulus.specs.Counting.{counted, first_from}
use Rattle.stimulus.specs.Lines.{word_at}
use Rattle.columns.specs.Columns.{counting, is_comma, variable_of, name_end, choice, chosen, chosen_from}

-- ---- counting: one number stored, and the rest to come

pub counting-next : (places : List ℕ) (i : ℕ) → i < 80
    → sets (set places i i) (i + 1) (counting (80 - (i + 1)) (i + 1)) ≡ sets places i (counting (80 - i) i)
unfolding counting
counting-next places i h = let k : 80 - i ≡ suc (80 - (i + 1)) = omega arith in rw (k, add-one i)

pub counting-done : (places : List ℕ) (i : ℕ) → 80 ≤ i → sets places i (counting (80 - i) i) ≡ places
unfolding counting
counting-done places i h = let k : 80 - i ≡ 0 = omega arith in rw k

-- ---- a name ends within its word

first-inside : (f : ℕ → Bool) (n k : ℕ) → (k ≤ first_from f n k) × (first_from f n k ≤ k + n)
unfolding first_from
first-inside f zero k = (omega arith, omega arith)
first-inside f (suc n) k = by (f k) (first-inside f n (k + 1))
  where
    by : (t : Bool) → (k + 1 ≤ first_from f n (k + 1)) × (first_from f n (k + 1) ≤ k + 1 + n) →
        (k ≤ pick t k (first_from f n (k + 1))) × (pick t k (first_from f n (k + 1)) ≤ k + suc n)
    by true x = (omega arith, omega arith)
    by false x = (omega arith, omega arith)

pub name-inside : (word : List ℕ) (from : ℕ) → from ≤ length word → (from ≤ name_end word from) × (name_end word from ≤ length word)
unfolding name_end
name-inside word from h = let x = first-inside (is_comma word) (length word - from) from in (x.0, omega (arith, x.1))

-- ---- chosen_from

module _ (names : List ℕ) (n : ℕ) (word : List ℕ) (k from : ℕ) (places : List ℕ) (count : ℕ) where
  pub chosen-many : k ≡ 0 → chosen places (choice count 2 (counted from)) ≡ chosen_from names n word k from places count
  unfolding chosen_from
  chosen-many e = rw e

  module _ (j : ℕ) (s : k ≡ suc j) (end : ℕ) (q : end ≡ name_end word from) (v : ℕ)
      (e : v ≡ variable_of names n (word_at word from end))
    where
      pub chosen_none : n ≤ v → chosen places (choice count 1 (counted from)) ≡ chosen_from names n word k from places count
      unfolding chosen_from
      chosen_none l = rw (s, ← q, ← e, le-ltb v n l)

      pub chosen_last : v < n → length word ≤ end →
          chosen (set places count v) (choice (count + 1) 0 0) ≡ chosen_from names n word k from places count
      unfolding chosen_from
      chosen_last l h = rw (s, ← q, ← e, lt-ltb v n l, le-ltb end (length word) h)

      pub chosen_more : v < n → end < length word →
          chosen_from names n word j (end + 1) (set places count v) (count + 1) ≡ chosen_from names n word k from places count
      unfolding chosen_from
      chosen_more l h = rw (s, ← q, ← e, lt-ltb v n l, lt-ltb end (length word) h)
