-- Rows of the definitions: which of its cases a reading or a character comes to. Assumes nothing.
use mathlib.Core.Path.{◌≡◌}
use mathlib.Core.List.{List}
use Prim.Native.Nat.{ℕ, ◌+◌, ◌<◌, ◌≤◌}
use native.Mathlib.Numerals.{add-one}
use borrow.Author.Tests.{le-ltb, eq-eqb}
use lib.ListN.{length, get_or, drop, drop_of_length-le}
use lib.Seq.{drop-cons}
use Rattle.allowances.specs.declared.Reading.{Reading}
use Rattle.allowances.specs.Allowances.{user_of, comma_taken, taken, taken_all}

-- ---- users

pub user-none : (n : ℕ) → 255 ≤ n → 255 ≡ user_of n
unfolding user_of
user-none n h = rw (le-ltb n 255 h)

module _ (r : Reading) where
  -- ---- a character

  module _ (b : ℕ) where
    pub taken-comma : b ≡ 44 → comma_taken r ≡ taken r b
    unfolding taken
    taken-comma e = rw (eq-eqb b 44 e)

  -- ---- a word

  pub all-turn : (word : List ℕ) (i : ℕ) → i < length word →
      taken_all r (drop i word) ≡ taken_all (taken r (get_or word i 0)) (drop (i + 1) word)
  unfolding taken_all
  all-turn word i h = rw (drop-cons word i 0 h, add-one i)

  pub all_done : (word : List ℕ) (i : ℕ) → length word ≤ i → taken_all r (drop i word) ≡ r
  unfolding taken_all
  all_done word i h = rw (drop_of_length-le word h)
