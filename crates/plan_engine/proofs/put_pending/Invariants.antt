-- `plan_engine::put_pending` meets its contract. The loop: the registers so far put.
use Prim.Native.Nat.{◌≤◌}
use native.Mathlib.Omega.{arith}
use mathlib.Core.Path.{◌≡◌, refl, sym, ap, ◌∙◌}
use Rattle.masks.specs.Masks.{bits}
use Rattle.plan.specs.Plan.{plan_of}
use Rattle.plan_changes.specs.Scene.{changing}
use Rattle.plan_changes.specs.Changes.{opened}
use Rattle.plan_engine.specs.Acting.{put_register, put_pending}
use Rattle.plan_engine.proofs.Acting.{pending-more}
use borrow.Author.Rules.{rules}
use Rattle.plan_engine.proofs.put_pending.Given as goal

abbrev pub invariant-loop-n : goal.invariant-loop-n
invariant-loop-n l =
    (l.n ≤ l.registers)
    × (changing l.cells (bits l.made.due) (bits l.made.woken)
    ≡ put_pending (plan_of l.plan) l.places (bits l.held) l.pending l.n (opened l.initial.cells (bits l.due)))
