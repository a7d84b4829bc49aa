-- `sources::fresh` meets its contract. Assumes nothing.
use mathlib.Core.Path.{sym, ◌∙◌}
use Rattle.writing.specs.Ascii.{ascii}
use Rattle.sources.specs.Sources.{fresh}
use Rattle.sources.proofs.fresh.Goals as goal

pub returns-then-same : goal.returns-then-same
unfolding fresh ascii
returns-then-same c =
    rw (sym c.same.ensures ∙ c.if-same.true, c.counted.ensures)

pub returns-then-asks : goal.returns-then-asks
unfolding fresh ascii
returns-then-asks c =
    rw (
      sym c.same.ensures ∙ c.if-same.false,
      sym c.asks.ensures
          ∙ c.if-asks.true,
      c.commanded.ensures,
    )

pub returns : goal.returns
unfolding fresh ascii
returns c =
    rw (
      sym c.same.ensures ∙ c.if-same.false,
      sym c.asks.ensures
          ∙ c.if-asks.false,
    ) c.passed.ensures
