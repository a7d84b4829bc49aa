-- `verilog_stmts::label_value` meets its contract. Assumes nothing.
use mathlib.Core.Path.{ap, refl}
use Rattle.verilog_stmts.specs.Steps.{moved, refused, placed, write}
use Rattle.verilog_stmts.specs.Stmts.{label_value, known}
use Rattle.verilog_stmts.proofs.Picks.{taken, left}
use Rattle.verilog_stmts.proofs.label_value.Goals as goal

pub returns-then-is_next : goal.returns-then-is_next
unfolding label_value known write
returns-then-is_next c =
    taken (known c.args.kinds.now
    c.args.numbers.now
    c.args.width) (moved refused)
    c.is_next.ensures c.if-is_next.true
    (rw (← c.after-a.ensures, ← c.number_at-v.ensures)
    (ap (λ t. placed c.after-a.result t) c.put_constant-p.ensures))

pub returns : goal.returns
unfolding label_value
returns c =
    left (known c.args.kinds.now c.args.numbers.now
    c.args.width) (moved refused) c.is_next.ensures c.if-is_next.false
    (rw (← c.refused.ensures) refl)
