-- A cycle of a comparison: the runs go from rest to rest, each of them or not, by which the cycle is judged, the first that stopped is
-- told, and the comparison goes on or not; and what is said at its end.
use Rattle.std.specs.Prelude.{Option, Some, None, Bool, false, List, ℕ}
use Rattle.values.specs.Values.{pick, ◌is◌then◌else◌}
use Rattle.options.specs.declared.Outcome.{Outcome}
use Rattle.comparison.specs.declared.Counts.{Counts}
use Rattle.comparison.specs.declared.Verdict.{Verdict}
use Rattle.comparison.specs.declared.Verdict.TheVariants.{Agreed, Differs}
use Rattle.comparison.specs.Verdicts.{is_agreed}
use Rattle.driving.specs.declared.Ending.{Ending}
use Rattle.driving.specs.declared.Ending.TheVariants.{Rested, Refused, Restless}
use Rattle.rivals.specs.declared.Four.{Four}
use Rattle.rivals.specs.declared.Halt.{Halt}
use Rattle.rivals.specs.declared.Halt.TheVariants.{Plain, First, Second, Expressed}
use Rattle.rivals.specs.declared.Met.{Met}
use Rattle.rivals.specs.declared.Telling.{Telling}
use Rattle.rivals.specs.declared.Telling.TheVariants.{Silent, Uncompared, Told}
use Rattle.rivals.specs.Judging.{Progress, comparable, halted, judged, is_said}

-- ---- first_ending: how the first of the four runs ended that stopped in a cycle; at rest where none did

-- How each of the four ended a cycle.
abbrev pub Endings : Type 0
Endings = Four Ending

-- How many cycles a run did of one.
unfoldable pub done_of : Ending → ℕ
done_of Rested = 1
done_of (Refused n) = 0
done_of (Restless n) = 0

unfoldable pub progress_of : Endings → Progress
progress_of e =
    record {
      plain = done_of e.plain;
      first = done_of e.first;
      second = done_of e.second;
      expressed = done_of e.expressed;
    }

unfoldable pub ending_at : Endings → Option Halt → Ending
ending_at e None = Rested
ending_at e (Some Plain) = e.plain
ending_at e (Some First) = e.first
ending_at e (Some Second) = e.second
ending_at e (Some Expressed) = e.expressed

unfoldable pub first_ending : Endings → Ending
first_ending e = ending_at e (halted 1 (progress_of e))

-- ---- met: a verdict with one cycle more, which is judged where all four did it. The comparison goes on where they did and agree.

unfoldable pub goes_on : Ending → Verdict → Bool
goes_on Rested v = is_agreed v
goes_on (Refused n) v = false
goes_on (Restless n) v = false

unfoldable pub met : Counts → Verdict → Endings → List ℕ → List ℕ → List ℕ → List ℕ → Met
met m v e plain first second expressed =
    let w = judged m v (comparable (progress_of e)) plain first second expressed in
    record { on = goes_on (first_ending e) w; ending = first_ending e; verdict = w }

-- ---- telling: what is said at the end: nothing where something else kept the comparison from it; else the verdict, but that agreement
-- over no cycle is told as nothing to compare

unfoldable pub verdict_telling : Verdict → Telling
verdict_telling (Agreed n) = n is 0 then Uncompared else Told
verdict_telling (Differs n k d) = Told

unfoldable pub telling : Verdict → Outcome → Telling
telling v o = pick (is_said v o) (verdict_telling v) Silent
