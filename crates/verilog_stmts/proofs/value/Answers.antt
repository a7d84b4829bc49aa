-- `verilog_stmts::value` meets its contract. Assumes nothing.
use mathlib.Core.Path.{refl}
use borrow.Author.Tests.{not-true, not-false}
use Rattle.verilog_stmts.specs.Stmts.{value, value_at, stay}
use Rattle.verilog_stmts.proofs.Picks.{taken, left}
use Rattle.verilog_stmts.proofs.value.Goals as goal

pub returns-then-not-at : goal.returns-then-not-at
unfolding value
returns-then-not-at c =
    left (value_at c.args.kinds.now c.args.numbers.now
    c.args.count) stay refl (not-true c.args.at.ok c.if-not-at.true) refl

pub returns : goal.returns
unfolding value value_at
returns c =
    taken (value_at c.args.kinds.now
    c.args.numbers.now
    c.args.count) stay refl
    (not-false c.args.at.ok c.if-not-at.false)
    (rw (← c.left.ensures) c.expression.ensures)
