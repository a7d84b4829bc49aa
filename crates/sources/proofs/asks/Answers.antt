-- `sources::asks` meets its contract. Assumes nothing.
use borrow.Author.Tests.{eq-eqb, ne_eqb}
use Rattle.writing.specs.Ascii.{ascii}
use Rattle.sources.specs.Sources.{asks}
use Rattle.sources.proofs.asks.Goals as goal

pub returns-else-o-eq0 : goal.returns-else-o-eq0
unfolding asks
returns-else-o-eq0 c =
    rw (ne_eqb _ _ c.if-o-eq0.false)

pub returns-then-o-eq0 : goal.returns-then-o-eq0
unfolding asks ascii
returns-then-o-eq0 c =
    rw (eq-eqb _ _ c.if-o-eq0.true) c.same.ensures
