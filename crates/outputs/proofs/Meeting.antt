-- How the comparison of two texts goes on. Assumes nothing.
use mathlib.Core.Path.{◌≡◌}
use mathlib.Core.Logic.{◌≢◌}
use mathlib.Core.List.{List}
use Prim.Native.Nat.{ℕ, suc, ◌+◌, ◌<◌, ◌≤◌}
use native.Mathlib.Numerals.{add-one}
use borrow.Author.Tests.{eq-eqb, ne_eqb}
use lib.ListN.{length, get_or, drop, drop_of_length-le}
use lib.Seq.{drop-cons}
use Rattle.outputs.specs.Outputs.{common}

module _ (a b : List ℕ) (i : ℕ) where
  pub common-over : length a ≤ i → common (drop i a) (drop i b) ≡ 0
  unfolding common
  common-over h = rw (drop_of_length-le a h)

  pub common-short : i < length a → length b ≤ i → common (drop i a) (drop i b) ≡ 0
  unfolding common
  common-short h k = rw (drop-cons a i 0 h, drop_of_length-le b k)

  module _ (h : i < length a) (k : i < length b) where
    pub common-differ : get_or a i 0 ≢ get_or b i 0 → common (drop i a) (drop i b) ≡ 0
    unfolding common
    common-differ e = rw (drop-cons a i 0 h, drop-cons b i 0 k, ne_eqb (get_or a i 0) (get_or b i 0) e)

    pub common-more : get_or a i 0 ≡ get_or b i 0 → common (drop i a) (drop i b) ≡ suc (common (drop (i + 1) a) (drop (i + 1) b))
    unfolding common
    common-more e = rw (add-one, drop-cons a i 0 h, drop-cons b i 0 k, eq-eqb (get_or a i 0) (get_or b i 0) e)
