-- `rules::clock_read` meets its contract. Assumes nothing.
use mathlib.Core.Path.{sym, ◌∙◌}
use Rattle.rules.specs.Judging.{clock_read_at}
use Rattle.rules.proofs.clock_read.Goals as goal

pub returns-then-any : goal.returns-then-any
unfolding clock_read_at
returns-then-any c =
    rw (sym c.any.ensures ∙ c.if-any.true) c.if-any.true

pub returns-else-any : goal.returns-else-any
unfolding clock_read_at
returns-else-any c =
    rw (sym c.any.ensures ∙ c.if-any.false) c.any-else-any.ensures
