-- `plan_state::lay` meets its contract. The loop's invariant: the cells below `v` are laid. Assumes nothing.
use mathlib.Core.Path.{◌≡◌, refl, sym, ap, ◌∙◌}
use Prim.Native.Nat.{◌≤◌}
use native.Mathlib.Omega.{arith}
use lib.ListN.{length}
use Rattle.plan_state.specs.Planes.{cells_below}
use Rattle.plan_state.proofs.Planes.{cells-next}
use borrow.Author.Rules.{rules}
use Rattle.plan_state.proofs.lay.Given as goal

abbrev pub invariant-loop-v : goal.invariant-loop-v
invariant-loop-v g l =
    (l.v ≤ g.row.N) × (length l.cells ≡ g.row.M) × (l.cells ≡ cells_below l.value l.unknown l.v l.initial.cells)
