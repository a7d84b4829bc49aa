-- `dispatch::slices::dispatch_planes` meets its contract: uneven slices, a turn that is stored, or none. Assumes nothing.
use mathlib.Core.Path.{refl}
use native.Mathlib.Omega.{arith}
use Rattle.dispatch.specs.Planes.{turns_after}
use Rattle.dispatch.proofs.Planes.{planes-uneven, planes-turned, planes-kept}
use Rattle.dispatch.proofs.slices.dispatch_planes.Goals as goal

pub returns-then-busy-turns : goal.returns-then-busy-turns
unfolding turns_after
returns-then-busy-turns c =
    (planes-uneven _ _ _ c.if-busy-turns.true, refl)

pub returns-then-at-turns : goal.returns-then-at-turns
returns-then-at-turns c =
    planes-turned _ _ _ c.if-busy-turns.false c.served-turn.ensures c.planes_eight.ensures

pub returns-else-at-turns : goal.returns-else-at-turns
returns-else-at-turns c =
    planes-kept _ _ _ c.if-busy-turns.false c.served-turn.ensures c.planes_eight.ensures (omega arith)
