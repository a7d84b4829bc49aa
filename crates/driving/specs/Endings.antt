-- What is said of a run that was to come to rest, and how a command ends whose run ends so.
use Rattle.std.specs.Prelude.{ℕ, ◌+◌, ◌*◌, ◌%◌, Bool, true, false, ltb}
use Rattle.values.specs.Values.{pick, ◌is◌then◌else◌}
use Rattle.options.specs.declared.Way.{Way}
use Rattle.options.specs.declared.Way.TheVariants.{Plain, Drawn, Expressed, Counted}
use Rattle.options.specs.declared.Outcome.{Outcome}
use Rattle.options.specs.declared.Outcome.TheVariants.{Done, Mistaken, Refused as Refusal}
use Rattle.driving.specs.declared.Rest.{Rest}
use Rattle.driving.specs.declared.Ending.{Ending}
use Rattle.driving.specs.declared.Ending.TheVariants.{Rested, Refused, Restless}
use Rattle.prepared_cycles.specs.Drives.{plain_most, drawn_most}

-- How many choices a run may take; one by the expressions takes them from the start to rest.
unfoldable pub most_of : Way → ℕ
most_of Plain = plain_most
most_of (Drawn n) = drawn_most
most_of Expressed = plain_most
most_of Counted = plain_most

unfoldable pub ending_of : Rest → Ending
ending_of r =
    r.number is 0 then pick r.rested Rested (Restless (most_of r.way)) else
    Refused r.number

unfoldable pub outcome_of : Ending → Outcome
outcome_of Rested = Done
outcome_of (Refused n) = Refusal
outcome_of (Restless n) = Refusal

-- ---- is_expressed: is it by the extracted expressions?

unfoldable pub is_expressed : Way → Bool
is_expressed Plain = false
is_expressed (Drawn n) = false
is_expressed Expressed = true
is_expressed Counted = false

-- ---- is_counted: is its work counted?

unfoldable pub is_counted : Way → Bool
is_counted Plain = false
is_counted (Drawn n) = false
is_counted Expressed = false
is_counted Counted = true

-- ---- line_outcome: how a run ends at a line of its inputs that gives no cycle, by the line's error (`stimulus`): 1 is a blank line or the
-- end of the file, more is a line that is wrong

unfoldable pub line_outcome : ℕ → Outcome
line_outcome error = pick (ltb error 2) Done Mistaken

-- ---- time_of: the time of a half in a waveform, ten units a cycle

unfoldable pub time_of : ℕ → ℕ → ℕ
time_of cycle clock = 10 * (cycle % 4294967296) + 10 + 5 * (clock % 2)
