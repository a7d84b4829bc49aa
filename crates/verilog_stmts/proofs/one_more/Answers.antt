-- `verilog_stmts::one_more` meets its contract. Assumes nothing.
use mathlib.Core.Path.{refl}
use borrow.Author.Tests.{lt-ltb, le-ltb}
use Rattle.verilog_stmts.specs.Events.{one_more}
use Rattle.verilog_stmts.proofs.one_more.Goals as goal

pub returns-then-n-lt9 : goal.returns-then-n-lt9
unfolding one_more
returns-then-n-lt9 c =
    rw (lt-ltb _ _ c.if-n-lt9.true) refl

pub returns-else-n-lt9 : goal.returns-else-n-lt9
unfolding one_more
returns-else-n-lt9 c =
    rw (le-ltb _ _ c.if-n-lt9.false) refl
