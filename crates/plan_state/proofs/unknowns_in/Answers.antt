-- `plan_state::unknowns_in` meets its contract. The loop's invariant: the elements so far are stored. Assumes nothing.
use mathlib.Core.Path.{◌≡◌, refl, ◌∙◌}
use Prim.Native.Nat.{◌≤◌, ◌-◌}
use native.Mathlib.Omega.{arith}
use Rattle.std.proofs.lemmas.List.{length-replicate}
use lib.ListN.{get_or, length-set}
use lib.Seq.{sets}
use Rattle.state.specs.Rows.{list_of}
use Rattle.state.proofs.Rows.{list_of-step, list_of-whole}
use Rattle.values.specs.Cells.{marks_in}
use borrow.Author.Rules.{rules}
use Rattle.plan_state.proofs.unknowns_in.Goals as goal

pub loop-v-init : goal.loop-v-init
unfolding list_of
loop-v-init g c =
    (omega arith, length-replicate _ _, refl)

pub loop-v-preserved : goal.loop-v-preserved
loop-v-preserved g c =
    let cs = c.args.cells.now in
    (omega arith, length-set _ _ _ ∙ c.loop-v.invariant.1, rw (c.marks_in.ensures, c.loop-v.invariant.2) (list_of-step (λ k. marks_in (get_or cs k 0)) _ c.loop-v.v))

pub returns : goal.returns
returns g c =
    let cs = c.args.cells.now in
    let e : c.loop-v.v ≡ g.row.N = omega arith in
    rw e at c.loop-v.invariant.2 ∙ list_of-whole (λ k. marks_in (get_or cs k 0)) _ g.row.N (length-replicate _ _)
