-- `prepared::unset_marks` meets its contract. The loop's invariant: the marks of the variables so far are stored. Assumes nothing.
use mathlib.Core.Path.{◌≡◌}
use Prim.Native.Nat.{◌≤◌}
use lib.ListN.{get_or}
use lib.Seq.{sets}
use Rattle.values.specs.Values.{ones}
use Rattle.state.specs.Rows.{list_of}
use Rattle.plan.specs.Plan.{plan_of}
use Rattle.prepared.specs.Prepared.{widths_of}
use Rattle.prepared.proofs.unset_marks.Given as goal

abbrev pub invariant-loop-v : goal.invariant-loop-v
invariant-loop-v l =
    (l.v ≤ 80) × (l.marks ≡ sets l.initial.marks 0 (list_of l.v (λ k. ones (get_or (widths_of (plan_of l.plan)) k 32))))
