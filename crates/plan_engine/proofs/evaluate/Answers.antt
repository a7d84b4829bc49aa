-- `plan_engine::evaluate` meets its contract. Assumes nothing.
use Rattle.plan_engine.specs.Live.{evaluate, worth}
use borrow.Author.Rules.{rules}
use Rattle.plan_engine.proofs.evaluate.Goals as goal

pub returns : goal.returns
unfolding evaluate worth
returns c =
    record { cells_after = rw (c.work.ensures, c.root_of-root.ensures.value); value = rw (c.work.ensures, c.root_of-root.ensures.value) }
