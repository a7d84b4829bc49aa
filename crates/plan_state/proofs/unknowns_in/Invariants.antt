-- `plan_state::unknowns_in` meets its contract. The loop's invariant: the elements so far are stored. Assumes nothing.
use mathlib.Core.Path.{◌≡◌, refl, ◌∙◌}
use Prim.Native.Nat.{◌≤◌}
use native.Mathlib.Omega.{arith}
use lib.ListN.{length, get_or}
use lib.Seq.{sets}
use Rattle.state.specs.Rows.{list_of}
use Rattle.state.proofs.Rows.{list_of-step, list_of-whole}
use Rattle.values.specs.Cells.{marks_in}
use borrow.Author.Rules.{rules}
use Rattle.plan_state.proofs.unknowns_in.Given as goal

abbrev pub invariant-loop-v : goal.invariant-loop-v
invariant-loop-v g l =
    (l.v ≤ g.row.N) × (length l.a ≡ g.row.N) × (l.a ≡ sets l.initial.a 0 (list_of l.v (λ k. marks_in (get_or l.cells k 0))))
