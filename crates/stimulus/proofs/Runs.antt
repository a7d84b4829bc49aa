-- Laws of runs of characters: how a loop goes along one, and that it ends within the line. Assumes nothing.
use mathlib.Core.Path.{◌≡◌, refl}
use mathlib.Core.Bool.{Bool, true, false}
use mathlib.Core.List.{List, [], ◌∷◌}
use Prim.Native.Nat.{ℕ, suc, ◌+◌, ◌<◌, ◌≤◌}
use native.Mathlib.Nat.{add-zero}
use native.Mathlib.Numerals.{add-one}
use native.Mathlib.Omega.{arith}
use borrow.Author.Tests.{ltb-true}
use lib.Dec.{ltb}
use lib.ListN.{length, get_or, drop, length-drop, drop_of_length-le}
use lib.Seq.{drop-cons}
use Rattle.stimulus.specs.declared.Class.{Class}
use Rattle.stimulus.specs.Words.{in_class, span, run_end, ended}

-- ---- run_end

module _ (c : Class) where
  span-few : (l : List ℕ) → span c l ≤ length l
  unfolding span
  span-few [] = omega arith
  span-few (b ∷ bs) = by (in_class c b) refl (span-few bs)
    where
      by : (t : Bool) → in_class c b ≡ t → span c bs ≤ length bs → span c (b ∷ bs) ≤ suc (length bs)
      by true e h = rw e (omega arith)
      by false e h = rw e (omega arith)

  module _ (line : List ℕ) (i : ℕ) where
    pub run-after : i ≤ run_end c line i
    unfolding run_end
    run-after = omega arith

    pub run_inside : i ≤ length line → run_end c line i ≤ length line
    unfolding run_end
    run_inside h = omega (arith, span-few (drop i line), length-drop i line)

    pub run-stays : i < length line → in_class c (get_or line i 0) ≡ false → run_end c line i ≡ i
    unfolding run_end span
    run-stays l e = rw (drop-cons line i 0 l, e) (add-zero i)

    pub run-goes : i < length line → in_class c (get_or line i 0) ≡ true → run_end c line i ≡ run_end c line (i + 1)
    unfolding run_end span
    run-goes l e = rw (drop-cons line i 0 l, e, add-one i) (omega arith)

    pub run-done : length line ≤ i → run_end c line i ≡ i
    unfolding run_end span
    run-done l = rw (drop_of_length-le line l) (add-zero i)

-- ---- ended

pub ended-not : (line : List ℕ) (p : ℕ) → ended line p ≡ false → p < length line
unfolding ended
ended-not line p h = by (ltb p (length line)) refl
  where
    by : (t : Bool) → ltb p (length line) ≡ t → p < length line
    by true e = ltb-true p (length line) e
    by false e = let g = rw e at h in let z : ◌≡◌ {A = ℕ} 0 1 = cc in omega arith
