-- `verilog_errors::choices::could_stand` meets its contract. Assumes nothing.
use borrow.Author.Rules.{rules}
use borrow.Author.Tests.{lt-ltb, le-ltb}
use Rattle.verilog_errors.specs.Choices.{could_stand}
use Rattle.verilog_errors.proofs.choices.could_stand.Goals as goal

pub returns-then-at-ge16385 : goal.returns-then-at-ge16385
unfolding could_stand
returns-then-at-ge16385 c =
    rw (le-ltb _ _ c.if-at-ge16385.true)

pub returns : goal.returns
unfolding could_stand
returns c =
    rw (
      lt-ltb _ _
          c.if-at-ge16385.false,
      c.stop_of.ensures,
      c.reach-n.ensures,
      c.sample.ensures,
    )
