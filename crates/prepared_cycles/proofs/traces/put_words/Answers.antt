-- `prepared_cycles::traces::put_words` meets its contract. The loop's invariant: the words so far are written. Assumes nothing.
use mathlib.Core.Path.{◌≡◌, refl}
use native.Mathlib.Omega.{arith}
use lib.ListN.{get_or, length-set}
use Rattle.state.specs.Rows.{list_of}
use Rattle.prepared_cycles.specs.Traces.{word_in}
use Rattle.prepared_cycles.proofs.Items.{list_of-on}
use Rattle.prepared_cycles.proofs.traces.put_words.Goals as goal

pub loop-v-init : goal.loop-v-init
unfolding list_of
loop-v-init c =
    (omega arith, refl, refl)

pub overflow_add-out : goal.overflow_add-out
overflow_add-out c =
    omega arith

pub offset_bounds-out-at : goal.offset_bounds-out-at
offset_bounds-out-at c =
    omega arith

pub bounds-out-at : goal.bounds-out-at
bounds-out-at c =
    omega arith

pub loop-v-preserved : goal.loop-v-preserved
loop-v-preserved c =
    let p = c.args in (
      omega arith,
      simp length-set c.loop-v.invariant.1,
      rw (c.word_in.ensures, c.loop-v.invariant.2) (list_of-on (λ j. word_in (get_or p.cells.now j 0)) p.out.now p.at c.loop-v.v),
    )

pub shape_of-out : goal.shape_of-out
shape_of-out c =
    c.loop-v.invariant.1

pub returns : goal.returns
returns c =
    let e : c.loop-v.v ≡ 80 = omega arith in
    rw e at c.loop-v.invariant.2
