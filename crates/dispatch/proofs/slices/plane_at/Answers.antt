-- `dispatch::slices::plane_at` meets its contract: past either slice, or inside both. Assumes nothing.
use native.Mathlib.Omega.{arith}
use Rattle.dispatch.proofs.Planes.{planes-at, planes-past-flags, planes-past-turns}
use Rattle.dispatch.proofs.slices.plane_at.Goals as goal

pub returns-then-at-busy : goal.returns-then-at-busy
returns-then-at-busy c =
    planes-past-flags _ _ _ (omega arith)

pub returns-then-at-turns : goal.returns-then-at-turns
returns-then-at-turns c =
    planes-past-turns _ _ _ (omega arith)

pub returns : goal.returns
returns c =
    planes-at _ _ _ (omega arith) (omega arith)
