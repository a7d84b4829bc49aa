-- How the search for a slot that does not go with the command goes along the slots. Assumes nothing.
use mathlib.Core.Path.{◌≡◌, refl}
use mathlib.Core.Bool.{true, false}
use Rattle.std.specs.Prelude.{Some}
use native.Mathlib.Omega.{arith}
use mathlib.Core.List.{List}
use Prim.Native.Nat.{ℕ, zero, suc, ◌+◌, ◌<◌, ◌≤◌}
use native.Mathlib.Numerals.{add-one}
use borrow.Author.Tests.{lt-ltb}
use lib.ListN.{length, get_or, drop, drop_of_length-le}
use lib.Seq.{drop-cons}
use Rattle.stimulus.specs.Counting.{found_at}
use Rattle.options.specs.Requests.{is_misfit, misfit}

-- A word that is a misfit is one: its number is not 0.
pub misfit-some : (command k n m : ℕ) → n ≡ m → is_misfit command k n ≡ true → Some n ≡ found_at m
unfolding is_misfit
misfit-some command k zero m e h = let z : ◌≡◌ {A = ℕ} 0 1 = cc in absurd (omega arith)
misfit-some command k (suc n) m e h = rw (← e, lt-ltb 0 (suc n) (omega arith)) refl

module _ (command : ℕ) (at : List ℕ) (k : ℕ) where
  pub misfit-none : length at ≤ k → misfit command k (drop k at) ≡ 0
  unfolding misfit
  misfit-none l = rw (drop_of_length-le at l)

  pub misfit-found : k < length at → is_misfit command k (get_or at k 0) ≡ true → misfit command k (drop k at) ≡ get_or at k 0
  unfolding misfit
  misfit-found l e = rw (drop-cons at k 0 l, e)

  pub misfit-more :
      k < length at → is_misfit command k (get_or at k 0) ≡ false →
      misfit command k (drop k at) ≡ misfit command (k + 1) (drop (k + 1) at)
  unfolding misfit
  misfit-more l e = rw (drop-cons at k 0 l, e, add-one k)
