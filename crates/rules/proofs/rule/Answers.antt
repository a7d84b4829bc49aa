-- `rules::rule` meets its contract. Assumes nothing.
use Rattle.rules.proofs.Rules.{rule-path}
use Rattle.rules.proofs.rule.Goals as goal

pub returns : goal.returns
returns c =
    let w = c.writers.ensures in
    rule-path _ _ _ _ _ w.plain_after w.later_after c.thread_readers.ensures c.lowest_rule.ensures
