-- `verilog_stmts::label` meets its contract. Assumes nothing.
use mathlib.Core.Path.{refl}
use Rattle.verilog_stmts.specs.Steps.{moved, refused}
use Rattle.verilog_stmts.specs.Stmts.{label_at, sized}
use Rattle.verilog_stmts.proofs.Picks.{taken, left}
use Rattle.verilog_stmts.proofs.label.Goals as goal

pub returns-then-is_next : goal.returns-then-is_next
unfolding label_at sized
returns-then-is_next c =
    taken (sized c.args.kinds.now
    c.args.numbers.now) (moved refused)
    c.is_next.ensures c.if-is_next.true
    (rw (← c.after.ensures, ← c.number_at.ensures, ← c.width_of-w.ensures) c.label_value.ensures)

pub returns : goal.returns
unfolding label_at
returns c =
    left (sized c.args.kinds.now c.args.numbers.now) (moved refused)
    c.is_next.ensures c.if-is_next.false (rw (← c.refused.ensures) refl)
