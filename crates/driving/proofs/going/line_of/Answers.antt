-- `driving::going::line_of` meets its contract. Assumes nothing.
use borrow.Author.Tests.{eq-eqb, ne_eqb}
use Rattle.driving.specs.Going.{line_of}
use Rattle.driving.proofs.going.line_of.Goals as goal

pub returns-then-error-eq0 : goal.returns-then-error-eq0
unfolding line_of
returns-then-error-eq0 c =
    rw (eq-eqb _ _ c.if-error-eq0.true)

pub returns-then-error-ne1 : goal.returns-then-error-ne1
unfolding line_of
returns-then-error-ne1 c =
    rw (ne_eqb _ 0 c.if-error-eq0.false, ne_eqb _ 1 c.if-error-ne1.true)

pub returns-then-over : goal.returns-then-over
unfolding line_of
returns-then-over c =
    rw (ne_eqb _ 0 c.if-error-eq0.false, eq-eqb _ 1 c.if-error-ne1.false, c.if-over.true)

pub returns : goal.returns
unfolding line_of
returns c =
    rw (ne_eqb _ 0 c.if-error-eq0.false, eq-eqb _ 1 c.if-error-ne1.false, c.if-over.false)
