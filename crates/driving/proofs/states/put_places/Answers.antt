-- `driving::states::put_places` meets its contract. The loop's invariant: the places so far are written. Assumes nothing.
use mathlib.Core.Path.{◌≡◌, refl}
use native.Mathlib.Omega.{arith}
use lib.ListN.{get_or}
use Rattle.state.specs.Rows.{list_of}
use Rattle.prepared_cycles.proofs.Items.{list_of-on}
use Rattle.driving.proofs.states.put_places.Goals as goal

pub loop-i-init : goal.loop-i-init
unfolding list_of
loop-i-init c =
    (omega arith, refl)

pub loop-i-preserved : goal.loop-i-preserved
loop-i-preserved c =
    let l = c.loop-i in
    let a = c.args in
    (omega arith, rw l.invariant.1 (list_of-on (λ j. get_or a.places.now j 0) a.row.now 80 l.i))

pub returns : goal.returns
returns c =
    let l = c.loop-i in
    let e : l.i ≡ 8 = omega arith in
    rw e at l.invariant.1
