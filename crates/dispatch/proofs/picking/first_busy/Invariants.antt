-- `dispatch::picking::first_busy` meets its contract. The invariant: what is left to search has the same first busy one as the
-- whole. Assumes nothing.
use Prim.Native.Nat.{◌-◌}
use mathlib.Core.Path.{◌≡◌}
use Rattle.dispatch.specs.Dispatch.{first_busy}
use Rattle.dispatch.proofs.picking.first_busy.Given as goal

abbrev pub invariant-loop-i : goal.invariant-loop-i
invariant-loop-i l =
    first_busy l.list l.i (l.to - l.i) ≡ first_busy l.list l.from (l.to - l.from)
