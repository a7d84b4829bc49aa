-- `drawing::put_stretch` meets its contract. Assumes nothing.
use borrow.Author.Tests.{eq-eqb, ne_eqb}
use Rattle.drawing.specs.Drawing.{stretch}
use Rattle.drawing.proofs.put_stretch.Goals as goal

pub returns-then-width-eq1 : goal.returns-then-width-eq1
unfolding stretch
returns-then-width-eq1 c =
    rw (eq-eqb _ _ c.if-width-eq1.true) c.put_bit.ensures

pub returns : goal.returns
unfolding stretch
returns c =
    rw (ne_eqb _ _ c.if-width-eq1.false) c.put_box.ensures
