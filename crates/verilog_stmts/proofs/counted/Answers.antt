-- `verilog_stmts::counted` meets its contract. Assumes nothing.
use mathlib.Core.Path.{refl}
use borrow.Author.Tests.{le-leb, lt-leb}
use Rattle.verilog_grammar.specs.Meaning.{up_to}
use Rattle.verilog_stmts.specs.Events.{counted}
use Rattle.verilog_stmts.proofs.counted.Goals as goal

pub returns-then-n-le8 : goal.returns-then-n-le8
unfolding counted up_to
returns-then-n-le8 c =
    rw (le-leb _ _ c.if-n-le8.true) refl

pub returns-else-n-le8 : goal.returns-else-n-le8
unfolding counted up_to
returns-else-n-le8 c =
    rw (lt-leb _ _ c.if-n-le8.false) refl
