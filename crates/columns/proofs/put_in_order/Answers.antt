-- `columns::put_in_order` meets its contract. The loop's invariant: the numbers still to be stored give the whole. Assumes nothing.
use mathlib.Core.Path.{refl, sym, ◌∙◌}
use Rattle.columns.specs.Columns.{in_order}
use Rattle.columns.proofs.Columns.{counting-next, counting-done}
use Rattle.columns.proofs.put_in_order.Goals as goal

pub loop-i-init : goal.loop-i-init
unfolding in_order
loop-i-init c =
    refl

pub loop-i-preserved : goal.loop-i-preserved
loop-i-preserved c =
    let l = c.loop-i in
    counting-next l.places l.i c.loop-i-test.true ∙ l.invariant

pub returns : goal.returns
returns c =
    let l = c.loop-i in
    sym (counting-done l.places l.i c.loop-i-test.false) ∙ l.invariant
