-- Samples, computed from the definitions: how far four runs came, two cycles judged, and how a comparison ends. Assumes nothing.
use mathlib.Core.Path.{◌≡◌, refl}
use mathlib.Core.List.{List, ◌∷◌, ◌++◌}
use mathlib.Core.Bool.{false}
use Prim.Native.Nat.{ℕ}
use lib.ListN.{replicate}
use Rattle.values.specs.Values.{known, same}
use Rattle.values.specs.Cells.{number_in, marks_in, value_of, cell_at}
use Rattle.trace_row.specs.TraceRow.{place_in, row_of}
use Rattle.options.specs.declared.Outcome.TheVariants.{Done, Refused, Different, Mistaken}
use Rattle.stimulus.specs.Counting.{counted, first_from}
use Rattle.comparison.specs.declared.Counts.{Counts}
use Rattle.comparison.specs.declared.Difference.TheVariants.{Variable, Place}
use Rattle.comparison.specs.declared.Verdict.TheVariants.{Agreed, Differs}
use Rattle.comparison.specs.Comparison.{values_differ, places_differ, difference, differs, finding_from, finding}
use Rattle.comparison.specs.Verdicts.{after, after_all, is_agreed, agreed_outcome, outcome_of}
use Rattle.driving.specs.declared.Ending.{Ending}
use Rattle.driving.specs.declared.Ending.TheVariants.{Rested, Refused as Stopped, Restless}
use Rattle.rivals.specs.declared.Telling.TheVariants.{Silent, Uncompared, Told}
use Rattle.std.specs.Prelude.{Some, None}
use Rattle.rivals.specs.declared.Halt.TheVariants.{Second}
use Rattle.rivals.specs.Judging.{Progress, lesser, comparable, halted, found, findings, cycles_in, judged, is_done, is_said, concluded}
use Rattle.rivals.specs.Meeting.{Endings, done_of, progress_of, ending_at, first_ending, goes_on, met, verdict_telling, telling}

abbrev progress : Progress
progress = record { plain = 8; first = 5; second = 3; expressed = 3 }

-- Of ten cycles three can be compared, and the order of seed 2 was the first that stopped; of three cycles all were done.
three : comparable progress ≡ 3
unfolding comparable lesser
three = refl

second : halted 10 progress ≡ Some Second
unfolding halted comparable lesser
second = refl

all : halted 3 progress ≡ None
unfolding halted comparable lesser
all = refl

-- A module with a clock and a register; a cycle's rows with the register's values.
abbrev counts : Counts
counts = record { inputs = 1; registers = 1; wires = 0; threads = 1 }

abbrev cycle : ℕ → ℕ → List ℕ
cycle low high = (0 ∷ low ∷ replicate 86 0) ++ (1 ∷ high ∷ replicate 86 0)

-- Two cycles, the first behind three others: in the second the order of seed 1 differs. The rows before the rise do not matter.
differ :
    judged counts (Agreed 3) 2 (cycle 0 4 ++ cycle 4 5) (cycle 9 4 ++ cycle 4 6) (cycle 0 4 ++ cycle 4 5) (cycle 0 4 ++ cycle 4 5)
    ≡ Differs 4 1 (Variable 1 (known 6) (known 5))
unfolding judged found findings cycles_in comparable lesser row_of finding finding_from differs difference first_from values_differ
    places_differ known cell_at value_of number_in marks_in place_in same after after_all counted
differ = refl

-- A trace that lacks its second cycle: one cycle is judged.
short : judged counts (Agreed 3) 2 (cycle 0 4 ++ cycle 4 5) (cycle 0 4) (cycle 0 4 ++ cycle 4 5) (cycle 0 4 ++ cycle 4 5) ≡ Agreed 4
unfolding judged found findings cycles_in comparable lesser row_of finding finding_from differs difference first_from values_differ
    places_differ known cell_at value_of number_in marks_in place_in same after after_all counted
short = refl

-- A run that was refused ends the comparison, but not where a difference was found before it; nothing compared is a mistake.
ended-refused : concluded (Agreed 4) Refused ≡ Refused
unfolding concluded is_said is_done is_agreed
ended-refused = refl

ended-different : concluded (Differs 4 1 (Place 0)) Refused ≡ Different
unfolding concluded is_said is_done is_agreed outcome_of
ended-different = refl

ended-nothing : concluded (Agreed 0) Done ≡ Mistaken
unfolding concluded is_said is_done is_agreed outcome_of agreed_outcome
ended-nothing = refl

-- A cycle that the order of seed 1 was refused and that of seed 2 did not rest in: the first of them is told, and nothing is judged.
abbrev endings : Ending → Ending → Endings
endings first second = record { plain = Rested; first = first; second = second; expressed = Rested }

first_stops :
    met counts (Agreed 3) (endings (Stopped 33) (Restless 65535)) (cycle 0 4) (cycle 0 5) (cycle 0 4) (cycle 0 4)
    ≡ record { on = false; ending = Stopped 33; verdict = Agreed 3 }
unfolding met first_ending ending_at progress_of done_of goes_on halted judged findings cycles_in comparable lesser after_all
first_stops = refl

-- The same cycle, done by all: they differ, which ends the comparison.
all_rest :
    met counts (Agreed 3) (endings Rested Rested) (cycle 0 4) (cycle 0 5) (cycle 0 4) (cycle 0 4)
    ≡ record { on = false; ending = Rested; verdict = Differs 3 1 (Variable 1 (known 5) (known 4)) }
unfolding met first_ending ending_at progress_of done_of goes_on is_agreed halted judged found findings cycles_in comparable lesser row_of finding
    finding_from differs difference first_from values_differ places_differ known cell_at value_of number_in marks_in place_in same after after_all counted
all_rest = refl

-- What is said: of no cycle that there was none, of a difference the verdict, behind a refused run else nothing.
told-nothing : telling (Agreed 0) Done ≡ Uncompared
unfolding telling verdict_telling is_said is_done is_agreed
told-nothing = refl

told-difference : telling (Differs 4 1 (Place 0)) Refused ≡ Told
unfolding telling verdict_telling is_said is_done is_agreed
told-difference = refl

told-refused : telling (Agreed 4) Refused ≡ Silent
unfolding telling verdict_telling is_said is_done is_agreed
told-refused = refl
