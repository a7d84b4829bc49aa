-- `rules::writes` meets its contract. Assumes nothing.
use mathlib.Core.Path.{sym, ◌∙◌}
use Rattle.rules.specs.Judging.{writes_at}
use Rattle.rules.proofs.writes.Goals as goal

pub returns-then-marked : goal.returns-then-marked
unfolding writes_at
returns-then-marked c =
    rw (sym c.marked.ensures ∙ c.if-marked.true) c.if-marked.true

pub returns-else-marked : goal.returns-else-marked
unfolding writes_at
returns-else-marked c =
    rw (sym c.marked.ensures ∙ c.if-marked.false) c.marked-else-marked.ensures
