-- `prepared_cycles::traces::put_places` meets its contract. The loop's invariant: the places so far are written. Assumes nothing.
use mathlib.Core.Path.{◌≡◌, refl}
use native.Mathlib.Omega.{arith}
use lib.ListN.{get_or, length-set}
use Rattle.state.specs.Rows.{list_of}
use Rattle.prepared_cycles.proofs.Items.{list_of-on}
use Rattle.prepared_cycles.proofs.traces.put_places.Goals as goal

pub loop-i-init : goal.loop-i-init
unfolding list_of
loop-i-init c =
    (omega arith, refl, refl)

pub overflow_add-out : goal.overflow_add-out
overflow_add-out c =
    omega arith

pub offset_bounds-out-at : goal.offset_bounds-out-at
offset_bounds-out-at c =
    omega arith

pub bounds-out-at : goal.bounds-out-at
bounds-out-at c =
    omega arith

pub loop-i-preserved : goal.loop-i-preserved
loop-i-preserved c =
    let p = c.args in (
      omega arith,
      simp length-set c.loop-i.invariant.1,
      rw c.loop-i.invariant.2 (list_of-on (λ j. get_or p.stood.now j 0) p.out.now p.at c.loop-i.i),
    )

pub shape_of-out : goal.shape_of-out
shape_of-out c =
    c.loop-i.invariant.1

pub returns : goal.returns
returns c =
    let e : c.loop-i.i ≡ 8 = omega arith in
    rw e at c.loop-i.invariant.2
