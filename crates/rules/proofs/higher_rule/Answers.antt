-- `rules::higher_rule` meets its contract: where it returns, the tests before it failed. Assumes nothing.
use mathlib.Core.Path.{sym, ◌∙◌}
use Rattle.rules.specs.Judging.{higher_rule}
use Rattle.rules.proofs.higher_rule.Goals as goal

pub returns-then-other_wait : goal.returns-then-other_wait
unfolding higher_rule
returns-then-other_wait c =
    rw (sym c.other_wait.ensures ∙ c.if-other_wait.true)

pub returns-then-starts_running : goal.returns-then-starts_running
unfolding higher_rule
returns-then-starts_running c =
    rw (
      sym c.other_wait.ensures ∙ c.if-other_wait.false,
      sym c.starts_running.ensures ∙ c.if-starts_running.true,
    )

pub returns-then-runs_away : goal.returns-then-runs_away
unfolding higher_rule
returns-then-runs_away c =
    rw (
      sym c.other_wait.ensures ∙ c.if-other_wait.false,
      sym c.starts_running.ensures ∙ c.if-starts_running.false,
      sym c.runs_away.ensures ∙ c.if-runs_away.true,
    )

pub returns-then-clock_read : goal.returns-then-clock_read
unfolding higher_rule
returns-then-clock_read c =
    rw (
      sym c.other_wait.ensures ∙ c.if-other_wait.false,
      sym c.starts_running.ensures ∙ c.if-starts_running.false,
      sym c.runs_away.ensures ∙ c.if-runs_away.false,
      sym c.clock_read.ensures ∙ c.if-clock_read.true,
    )

pub returns-then-reads_upward : goal.returns-then-reads_upward
unfolding higher_rule
returns-then-reads_upward c =
    rw (
      sym c.other_wait.ensures ∙ c.if-other_wait.false,
      sym c.starts_running.ensures ∙ c.if-starts_running.false,
      sym c.runs_away.ensures ∙ c.if-runs_away.false,
      sym c.clock_read.ensures ∙ c.if-clock_read.false,
      sym c.reads_upward.ensures ∙ c.if-reads_upward.true,
    )

pub returns-then-many_waits : goal.returns-then-many_waits
unfolding higher_rule
returns-then-many_waits c =
    rw (
      sym c.other_wait.ensures ∙ c.if-other_wait.false,
      sym c.starts_running.ensures ∙ c.if-starts_running.false,
      sym c.runs_away.ensures ∙ c.if-runs_away.false,
      sym c.clock_read.ensures ∙ c.if-clock_read.false,
      sym c.reads_upward.ensures ∙ c.if-reads_upward.false,
      sym c.many_waits.ensures ∙ c.if-many_waits.true,
    )

pub returns : goal.returns
unfolding higher_rule
returns c =
    rw (
      sym c.other_wait.ensures ∙ c.if-other_wait.false,
      sym c.starts_running.ensures ∙ c.if-starts_running.false,
      sym c.runs_away.ensures ∙ c.if-runs_away.false,
      sym c.clock_read.ensures ∙ c.if-clock_read.false,
      sym c.reads_upward.ensures ∙ c.if-reads_upward.false,
      sym c.many_waits.ensures ∙ c.if-many_waits.false,
    )
