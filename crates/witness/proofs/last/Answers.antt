-- `witness::last` meets its contract. Assumes nothing.
use mathlib.Core.Path.{sym, ◌∙◌}
use Rattle.witness.specs.Seeking.{last_at}
use borrow.Author.Rules.{rules}
use Rattle.witness.proofs.last.Goals as goal

pub returns-then-clock_read : goal.returns-then-clock_read
unfolding last_at
returns-then-clock_read c =
    rw (sym c.clock_read.ensures ∙ c.if-clock_read.true) c.clock_reader.ensures

pub returns-then-reads_upward : goal.returns-then-reads_upward
unfolding last_at
returns-then-reads_upward c =
    rw (
      sym c.clock_read.ensures ∙ c.if-clock_read.false,
      sym c.reads_upward.ensures ∙ c.if-reads_upward.true,
    )
    c.upward_wire.ensures

pub returns-then-many_waits : goal.returns-then-many_waits
unfolding last_at
returns-then-many_waits c =
    rw (
      sym c.clock_read.ensures ∙ c.if-clock_read.false,
      sym c.reads_upward.ensures ∙ c.if-reads_upward.false,
      sym c.many_waits.ensures ∙ c.if-many_waits.true,
    )
    c.surplus_wait.ensures

pub returns : goal.returns
unfolding last_at
returns c =
    rw (
      sym c.clock_read.ensures ∙ c.if-clock_read.false,
      sym c.reads_upward.ensures ∙ c.if-reads_upward.false,
      sym c.many_waits.ensures ∙ c.if-many_waits.false,
    )
    c.overflowing_walk.ensures
