-- `verilog_origins::points::part_of` meets its contract. Assumes nothing.
use borrow.Author.Tests.{eq-eqb, ne_eqb}
use Rattle.verilog_origins.specs.Points.{part_of}
use Rattle.verilog_origins.proofs.points.part_of.Goals as goal

pub returns-then-part-eq0 : goal.returns-then-part-eq0
unfolding part_of
returns-then-part-eq0 c =
    rw (eq-eqb _ _ c.if-part-eq0.true)

pub returns-then-part-eq1 : goal.returns-then-part-eq1
unfolding part_of
returns-then-part-eq1 c =
    rw (ne_eqb _ _ c.if-part-eq0.false, eq-eqb _ _ c.if-part-eq1.true)

pub returns-then-part-eq2 : goal.returns-then-part-eq2
unfolding part_of
returns-then-part-eq2 c =
    rw (ne_eqb _ _ c.if-part-eq0.false, ne_eqb _ _ c.if-part-eq1.false, eq-eqb _ _ c.if-part-eq2.true)

pub returns : goal.returns
unfolding part_of
returns c =
    rw (ne_eqb _ _ c.if-part-eq0.false, ne_eqb _ _ c.if-part-eq1.false, ne_eqb _ _ c.if-part-eq2.false)
