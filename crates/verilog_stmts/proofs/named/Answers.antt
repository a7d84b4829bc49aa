-- `verilog_stmts::named` meets its contract. Assumes nothing.
use mathlib.Core.Path.{refl}
use Rattle.verilog_stmts.proofs.Picks.{taken, left}
use Rattle.verilog_stmts.specs.Steps.{moved, refused, name, named}
use Rattle.verilog_stmts.proofs.named.Goals as goal

pub returns-then-is_next : goal.returns-then-is_next
unfolding named name
returns-then-is_next c =
    taken (name c.args.numbers.now) (moved refused)
    c.is_next.ensures c.if-is_next.true
    (rw (← c.after.ensures, ← c.number_at.ensures, ← c.low-b.ensures)
    c.write.ensures)

pub returns : goal.returns
unfolding named
returns c =
    left (name c.args.numbers.now) (moved refused) c.is_next.ensures
    c.if-is_next.false (rw (← c.refused.ensures) refl)
