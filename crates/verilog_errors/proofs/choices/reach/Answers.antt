-- `verilog_errors::choices::reach` meets its contract. Assumes nothing.
use borrow.Author.Rules.{rules}
use borrow.Author.Tests.{lt-ltb, le-ltb}
use Rattle.verilog_errors.specs.Choices.{reach}
use Rattle.verilog_errors.proofs.choices.reach.Goals as goal

pub returns-then-at-count : goal.returns-then-at-count
unfolding reach
returns-then-at-count c =
    rw (lt-ltb _ _ c.if-at-count.true)

pub returns : goal.returns
unfolding reach
returns c =
    rw (le-ltb _ _ c.if-at-count.false)
