-- `rules::lowest_rule` meets its contract: where it returns, the tests before it failed. Assumes nothing.
use mathlib.Core.Path.{sym, ◌∙◌}
use Rattle.rules.specs.Judging.{lowest_rule}
use Rattle.rules.proofs.lowest_rule.Goals as goal

pub returns-then-two_writers : goal.returns-then-two_writers
unfolding lowest_rule
returns-then-two_writers c =
    rw (sym c.two_writers.ensures ∙ c.if-two_writers.true)

pub returns-then-both_ways : goal.returns-then-both_ways
unfolding lowest_rule
returns-then-both_ways c =
    rw (
      sym c.two_writers.ensures ∙ c.if-two_writers.false,
      sym c.both_ways.ensures ∙ c.if-both_ways.true,
    )

pub returns-then-plainly_shared : goal.returns-then-plainly_shared
unfolding lowest_rule
returns-then-plainly_shared c =
    rw (
      sym c.two_writers.ensures ∙ c.if-two_writers.false,
      sym c.both_ways.ensures ∙ c.if-both_ways.false,
      sym c.plainly_shared.ensures ∙ c.if-plainly_shared.true,
    )

pub returns : goal.returns
unfolding lowest_rule
returns c =
    rw (
      sym c.two_writers.ensures ∙ c.if-two_writers.false,
      sym c.both_ways.ensures ∙ c.if-both_ways.false,
      sym c.plainly_shared.ensures ∙ c.if-plainly_shared.false,
    )
    c.higher_rule.ensures
