-- `verilog_items::names::mark` meets its contract. Assumes nothing.
use borrow.Author.Rules.{rules}
use mathlib.Core.Path.{refl}
use borrow.Author.Tests.{lt-ltb, le-ltb}
use Rattle.verilog_items.specs.Notes.{marked}
use Rattle.verilog_items.proofs.names.mark.Goals as goal

pub returns-then-i-lt16385 : goal.returns-then-i-lt16385
unfolding marked
returns-then-i-lt16385 c =
    rw (lt-ltb _ _ c.if-i-lt16385.true) refl

pub returns-else-i-lt16385 : goal.returns-else-i-lt16385
unfolding marked
returns-else-i-lt16385 c =
    rw (le-ltb _ _ c.if-i-lt16385.false) refl
