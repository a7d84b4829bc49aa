-- `rules::written_both` meets its contract. Assumes nothing.
use mathlib.Core.Path.{sym, ◌∙◌}
use Rattle.rules.specs.Judging.{written_both}
use Rattle.rules.proofs.written_both.Goals as goal

pub returns-then-written_by : goal.returns-then-written_by
unfolding written_both
returns-then-written_by c =
    rw (sym c.written_by.ensures ∙ c.if-written_by.true) c.written_by-then-written_by.ensures

pub returns-else-written_by : goal.returns-else-written_by
unfolding written_both
returns-else-written_by c =
    rw (sym c.written_by.ensures ∙ c.if-written_by.false) c.if-written_by.false
