-- `clock_run::trace_rows` meets its contract. The loop: the rows that are left end where all of them do. Assumes nothing.
use mathlib.Core.Path.{◌≡◌}
use Prim.Native.Nat.{◌*◌, ◌/◌, ◌≤◌}
use lib.ListN.{length}
use Rattle.plan.specs.Plan.{plan_of, node_at}
use Rattle.clock_steps.specs.Taking.{stand}
use Rattle.clock_run.specs.Running.{upper_of}
use Rattle.clock_run.proofs.Turns.{Left}
use Rattle.clock_run.proofs.trace_rows.Given as goal

abbrev pub invariant-loop-r : goal.invariant-loop-r
invariant-loop-r l =
    (l.r ≤ l.rows)
    × (l.rows ≤ 1152921504606846975)
    × (l.n ≤ 15)
    × (length l.out ≡ length l.initial.out)
    × (176 * l.rows ≤ length l.initial.out)
    × (176 * l.rows ≤ 18446744073709551615)
    × (l.rows ≡ length l.value / 16)
    × (l.n ≡ upper_of (plan_of l.plan))
    × Left (plan_of l.plan) (node_at l.lent) l.table l.numbers l.before l.value l.unknown l.initial.out l.rows l.r (stand l.cells l.places) l.out
