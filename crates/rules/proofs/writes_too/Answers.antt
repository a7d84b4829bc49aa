-- `rules::writes_too` meets its contract. Assumes nothing.
use mathlib.Core.Path.{sym, ◌∙◌}
use Rattle.rules.specs.Judging.{writes_too}
use Rattle.rules.proofs.writes_too.Goals as goal

pub returns-then-writes : goal.returns-then-writes
unfolding writes_too
returns-then-writes c =
    rw (sym c.writes.ensures ∙ c.if-writes.true) c.written_again.ensures

pub returns-else-writes : goal.returns-else-writes
unfolding writes_too
returns-else-writes c =
    rw (sym c.writes.ensures ∙ c.if-writes.false) c.if-writes.false
