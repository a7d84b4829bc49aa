-- `verilog_stmts::stamp` meets its contract. Assumes nothing.
use mathlib.Core.Path.{refl}
use borrow.Author.Tests.{lt-ltb, le-ltb}
use Rattle.verilog_stmts.specs.Steps.{stamped}
use Rattle.verilog_stmts.proofs.stamp.Goals as goal

pub returns-then-place-lt65536 : goal.returns-then-place-lt65536
unfolding stamped
returns-then-place-lt65536 c =
    rw (lt-ltb _ _ c.if-place-lt65536.true) refl

pub returns-else-place-lt65536 : goal.returns-else-place-lt65536
unfolding stamped
returns-else-place-lt65536 c =
    rw (le-ltb _ _ c.if-place-lt65536.false) refl
