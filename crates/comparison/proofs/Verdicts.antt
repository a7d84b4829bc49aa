-- Cycle by cycle the verdict is that of all cycles. Assumes nothing.
use mathlib.Core.Path.{◌≡◌, refl}
use mathlib.Core.List.{List, [], ◌∷◌}
use Prim.Native.Nat.{ℕ}
use Rattle.comparison.specs.declared.Difference.{Difference}
use Rattle.comparison.specs.declared.Finding.{Finding}
use Rattle.comparison.specs.declared.Finding.TheVariants.{Same, Apart}
use Rattle.comparison.specs.declared.Verdict.TheVariants.{Agreed, Differs}
use Rattle.stimulus.specs.Counting.{counted}
use Rattle.comparison.specs.Verdicts.{verdict_from, verdict, after, after_all, ByCycles}

pub after-differs : (n k : ℕ) (d : Difference) (fs : List Finding) → after_all (Differs n k d) fs ≡ Differs n k d
unfolding after_all after
after-differs n k d [] = refl
after-differs n k d (f ∷ fs) = after-differs n k d fs

after-agreed : (n : ℕ) (fs : List Finding) → after_all (Agreed n) fs ≡ verdict_from n fs
unfolding after_all after verdict_from
after-agreed n [] = refl
after-agreed n (Same ∷ fs) = after-agreed (counted n) fs
after-agreed n (Apart k d ∷ fs) = after-differs n k d fs

pub by-cycles : ByCycles
unfolding verdict
by-cycles fs = after-agreed 0 fs
