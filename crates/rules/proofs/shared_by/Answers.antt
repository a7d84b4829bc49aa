-- `rules::shared_by` meets its contract. Assumes nothing.
use mathlib.Core.Path.{sym, ◌∙◌}
use Rattle.rules.specs.Judging.{shared_by}
use Rattle.rules.proofs.shared_by.Goals as goal

pub returns-then-marked : goal.returns-then-marked
unfolding shared_by
returns-then-marked c =
    rw (sym c.marked.ensures ∙ c.if-marked.true) c.read_elsewhere.ensures

pub returns-else-marked : goal.returns-else-marked
unfolding shared_by
returns-else-marked c =
    rw (sym c.marked.ensures ∙ c.if-marked.false) c.if-marked.false
