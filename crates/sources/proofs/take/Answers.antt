-- `sources::take` meets its contract. Assumes nothing.
use borrow.Author.Tests.{eq-eqb, ne_eqb}
use Rattle.sources.specs.Sources.{taken}
use Rattle.sources.proofs.take.Goals as goal

pub returns-then-w-ne0 : goal.returns-then-w-ne0
unfolding taken
returns-then-w-ne0 c =
    rw (ne_eqb _ _ c.if-w-ne0.true) c.passed.ensures

pub returns : goal.returns
unfolding taken
returns c =
    rw (eq-eqb _ _ c.if-w-ne0.false) c.fresh.ensures
