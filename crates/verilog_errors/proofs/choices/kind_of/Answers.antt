-- `verilog_errors::choices::kind_of` meets its contract. Assumes nothing.
use borrow.Author.Rules.{rules}
use borrow.Author.Tests.{lt-ltb, le-ltb}
use Rattle.verilog_errors.specs.Choices.{kind_of}
use Rattle.verilog_errors.proofs.choices.kind_of.Goals as goal

pub returns-then-n-lt5 : goal.returns-then-n-lt5
unfolding kind_of
returns-then-n-lt5 c =
    rw (lt-ltb _ _ c.if-n-lt5.true)

pub returns-then-n-lt44 : goal.returns-then-n-lt44
unfolding kind_of
returns-then-n-lt44 c =
    rw (le-ltb _ _ c.if-n-lt5.false, lt-ltb _ _ c.if-n-lt44.true)

pub returns : goal.returns
unfolding kind_of
returns c =
    rw (le-ltb _ _ c.if-n-lt5.false, le-ltb _ _ c.if-n-lt44.false)
