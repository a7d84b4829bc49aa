-- `verilog_stmts::after` meets its contract. Assumes nothing.
use mathlib.Core.Path.{refl}
use borrow.Author.Tests.{lt-ltb, le-ltb}
use Rattle.verilog_stmts.specs.Steps.{after}
use Rattle.verilog_stmts.proofs.after.Goals as goal

pub returns-then-i-lt16385 : goal.returns-then-i-lt16385
unfolding after
returns-then-i-lt16385 c =
    rw (lt-ltb _ _ c.if-i-lt16385.true) refl

pub returns : goal.returns
unfolding after
returns c =
    rw (le-ltb _ _ c.if-i-lt16385.false) refl
