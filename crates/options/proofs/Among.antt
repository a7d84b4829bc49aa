-- How the search for a word goes along a line of words. Assumes nothing.
use mathlib.Core.Path.{◌≡◌}
use mathlib.Core.Bool.{Bool, true, false}
use mathlib.Core.List.{List}
use Prim.Native.Nat.{ℕ, ◌+◌, ◌<◌, ◌≤◌}
use native.Mathlib.Numerals.{add-one}
use native.Mathlib.Omega.{arith}
use lib.Dec.{eqb}
use lib.ListN.{length, get_or, drop, drop_of_length-le}
use lib.Seq.{drop-cons}
use Rattle.values.specs.Values.{pick}
use Rattle.options.specs.Tables.{is_found, goes_on, lettered, ended, among_from}

module _ (word line : List ℕ) (k n : ℕ) (same : Bool) (i : ℕ) where
  pub among_none : length line ≤ i → among_from word k n same (drop i line) ≡ 0
  unfolding among_from
  among_none l = rw (drop_of_length-le line l)

  pub among-found : i < length line → is_found word n same (get_or line i 0) ≡ true → among_from word k n same (drop i line) ≡ k + 1
  unfolding among_from
  among-found l e = rw (drop-cons line i 0 l, e)

  pub among-more :
      i < length line → is_found word n same (get_or line i 0) ≡ false →
      among_from word k n same (drop i line)
      ≡ among_from word (ended k (get_or line i 0)) (lettered n (get_or line i 0)) (goes_on word n same (get_or line i 0)) (drop (i + 1) line)
  unfolding among_from
  among-more l e = rw (drop-cons line i 0 l, e, add-one i)

pub ended-≤ : (k b : ℕ) → ended k b ≤ k + 1
unfolding ended
ended-≤ k b = by (eqb b 32)
  where
    by : (x : Bool) → pick x (k + 1) k ≤ k + 1
    by true = omega arith
    by false = omega arith

pub lettered-≤ : (n b : ℕ) → lettered n b ≤ n + 1
unfolding lettered
lettered-≤ n b = by (eqb b 32)
  where
    by : (x : Bool) → pick x 0 (n + 1) ≤ n + 1
    by true = omega arith
    by false = omega arith
