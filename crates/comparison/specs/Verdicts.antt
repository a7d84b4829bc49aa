-- The verdict over all cycles: the first cycle in which an order differs from the expressions, else agreement over so many.
use Rattle.std.specs.Prelude.{Bool, true, false, List, [], ◌∷◌, ◌≡◌, ℕ}
use Rattle.values.specs.Values.{◌is◌then◌else◌}
use Rattle.stimulus.specs.Counting.{counted}
use Rattle.options.specs.declared.Outcome.{Outcome}
use Rattle.options.specs.declared.Outcome.TheVariants.{Done, Different, Mistaken}
use Rattle.comparison.specs.declared.Finding.{Finding}
use Rattle.comparison.specs.declared.Finding.TheVariants.{Same, Apart}
use Rattle.comparison.specs.declared.Verdict.{Verdict}
use Rattle.comparison.specs.declared.Verdict.TheVariants.{Agreed, Differs}

-- ---- verdict: what the cycles show, the first of them being number n

unfoldable pub verdict_from : ℕ → List Finding → Verdict
verdict_from n [] = Agreed n
verdict_from n (Same ∷ fs) = verdict_from (counted n) fs
verdict_from n (Apart k d ∷ fs) = Differs n k d

unfoldable pub verdict : List Finding → Verdict
verdict fs = verdict_from 0 fs

-- ---- after: a verdict and one cycle more; what differs stays

unfoldable pub after : Verdict → Finding → Verdict
after (Agreed n) Same = Agreed (counted n)
after (Agreed n) (Apart k d) = Differs n k d
after (Differs n k d) f = Differs n k d

unfoldable pub after_all : Verdict → List Finding → Verdict
after_all v [] = v
after_all v (f ∷ fs) = after_all (after v f) fs

-- ---- the claim: cycle by cycle, from agreement over none, the verdict is that of all cycles (`by-cycles` of proofs/Verdicts)

abbrev pub ByCycles : Type 0
ByCycles = (fs : List Finding) → after_all (Agreed 0) fs ≡ verdict fs

-- ---- what a verdict says: has no order differed; the cycle to come, or the one that differs; how the command ends

unfoldable pub is_agreed : Verdict → Bool
is_agreed (Agreed n) = true
is_agreed (Differs n k d) = false

unfoldable pub cycle_of : Verdict → ℕ
cycle_of (Agreed n) = n
cycle_of (Differs n k d) = n

-- Agreement over no cycle is none: there was nothing to compare.
unfoldable pub agreed_outcome : ℕ → Outcome
agreed_outcome n = n is 0 then Mistaken else Done

unfoldable pub outcome_of : Verdict → Outcome
outcome_of (Agreed n) = agreed_outcome n
outcome_of (Differs n k d) = Different
