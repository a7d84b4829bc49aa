-- `text::mark_of` meets its contract. Assumes nothing.
use borrow.Author.Tests.{ne_eqb}
use Rattle.text.specs.Printing.{mark_of}
use Rattle.text.proofs.mark_of.Goals as goal

pub returns-then-map-eq128 : goal.returns-then-map-eq128
unfolding mark_of
returns-then-map-eq128 c =
    rw c.if-map-eq128.true

pub returns-else-map-eq128 : goal.returns-else-map-eq128
unfolding mark_of
returns-else-map-eq128 c =
    simp (ne_eqb _ _ c.if-map-eq128.false)
