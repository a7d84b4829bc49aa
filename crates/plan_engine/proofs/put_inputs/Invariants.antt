-- `plan_engine::put_inputs` meets its contract. The loop: the inputs so far put.
use Prim.Native.Nat.{◌≤◌}
use native.Mathlib.Omega.{arith}
use mathlib.Core.Path.{◌≡◌, refl, sym, ap, ◌∙◌}
use Rattle.values.specs.Planes.{value_at}
use Rattle.masks.specs.Masks.{bits}
use Rattle.values.specs.Cells.{cell_of}
use Rattle.plan.specs.Plan.{plan_of}
use Rattle.plan_changes.specs.Scene.{changing}
use Rattle.plan_changes.specs.Changes.{put, opened}
use Rattle.plan_engine.specs.Acting.{put_inputs}
use Rattle.plan_engine.proofs.Acting.{inputs-more}
use borrow.Author.Rules.{rules}
use Rattle.plan_engine.proofs.put_inputs.Given as goal

abbrev pub invariant-loop-n : goal.invariant-loop-n
invariant-loop-n l =
    (l.n ≤ l.inputs)
    × (changing l.cells (bits l.made.due) (bits l.made.woken)
    ≡ put_inputs (plan_of l.plan) l.places (value_at l.value l.unknown) l.n (opened l.initial.cells (bits l.due)))
