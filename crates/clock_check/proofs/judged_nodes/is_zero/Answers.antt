-- `clock_check::judged_nodes::is_zero` meets its contract, test by test. Assumes nothing.
use mathlib.Core.Path.{sym, ◌∙◌}
use borrow.Author.Tests.{eq-eqb, ne_eqb}
use Rattle.clock_check.proofs.judged_nodes.is_zero.Goals as goal

pub returns-then-word_at-eq0 : goal.returns-then-word_at-eq0
returns-then-word_at-eq0 c =
    rw (eq-eqb _ _ (sym c.word_at.ensures ∙ c.if-word_at-eq0.true), c.word_at-then-word_at-eq0.ensures)

pub returns-else-word_at-eq0 : goal.returns-else-word_at-eq0
returns-else-word_at-eq0 c =
    rw (← c.word_at.ensures, ne_eqb _ _ c.if-word_at-eq0.false)
