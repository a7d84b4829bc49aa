-- `clock_run::cycles` meets its contract. Assumes nothing.
use mathlib.Core.Path.{sym, ap, ◌∙◌}
use Rattle.clock_run.specs.Rounds.{ended_at, cycles_on}
use Rattle.clock_run.proofs.cycles.Goals as goal

pub returns-then-not-registers_fit : goal.returns-then-not-registers_fit
unfolding cycles_on
returns-then-not-registers_fit c =
    rw (sym c.registers_fit.ensures ∙ c.if-not-registers_fit.true)
    (c.ended.ensures ∙ ap (ended_at 0 31) c.refused.ensures)

pub returns-then-not-rows_whole : goal.returns-then-not-rows_whole
unfolding cycles_on
returns-then-not-rows_whole c =
    rw (
      sym c.registers_fit.ensures ∙ c.if-not-registers_fit.false,
      sym c.rows_whole.ensures ∙ c.if-not-rows_whole.true,
    )
    (c.ended-then-not-rows_whole.ensures ∙ ap (ended_at 0 25) c.refused-then-not-rows_whole.ensures)

pub returns : goal.returns
unfolding cycles_on
returns c =
    rw (
      sym c.registers_fit.ensures ∙ c.if-not-registers_fit.false,
      sym c.rows_whole.ensures ∙ c.if-not-rows_whole.false,
    )
    c.run_rows.ensures
