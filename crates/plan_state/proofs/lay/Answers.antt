-- `plan_state::lay` meets its contract. The loop's invariant: the cells below `v` are laid. Assumes nothing.
use mathlib.Core.Path.{◌≡◌, refl, ◌∙◌}
use native.Mathlib.Omega.{arith}
use borrow.Author.Rules.{rules}
use lib.ListN.{length-set}
use Rattle.plan_state.specs.Planes.{cells_below}
use Rattle.plan_state.proofs.Planes.{cells-next}
use Rattle.plan_state.proofs.lay.Goals as goal

pub loop-v-init : goal.loop-v-init
unfolding cells_below
loop-v-init g c =
    (omega arith, search rules, refl)

pub loop-v-preserved : goal.loop-v-preserved
loop-v-preserved g c =
    let p = c.args in (
      omega arith,
      length-set _ _ _ ∙ c.loop-v.invariant.1,
      rw c.marked.ensures (cells-next p.value.now p.unknown.now _ c.loop-v.v _ c.loop-v.invariant.2),
    )

pub returns : goal.returns
returns g c =
    let l = c.loop-v in
    let e : l.v ≡ g.row.N = omega arith in
    rw e at l.invariant.2
