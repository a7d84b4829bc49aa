-- `driving::states::put_words` meets its contract. The loop's invariant: the words so far are written. Assumes nothing.
use mathlib.Core.Path.{◌≡◌, refl}
use native.Mathlib.Omega.{arith}
use Rattle.values.specs.Planes.{value_at}
use Rattle.values.specs.Cells.{cell_of}
use Rattle.state.specs.Rows.{list_of}
use Rattle.state.proofs.Rows.{list_of-step}
use Rattle.driving.proofs.states.put_words.Goals as goal

pub loop-v-init : goal.loop-v-init
unfolding list_of
loop-v-init c =
    (omega arith, refl)

pub loop-v-preserved : goal.loop-v-preserved
loop-v-preserved c =
    let l = c.loop-v in
    let a = c.args in (
      omega arith,
      rw (c.store.ensures, c.value_at.ensures, l.invariant.1)
          (list_of-step (λ j. cell_of (value_at a.value.now a.unknown.now j)) a.row.now l.v),
    )

pub returns : goal.returns
returns c =
    let l = c.loop-v in
    let e : l.v ≡ 80 = omega arith in
    rw e at l.invariant.1
