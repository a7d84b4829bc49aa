-- `verilog_stmts::case_end` meets its contract. Assumes nothing.
use mathlib.Core.Path.{refl}
use Rattle.verilog_bytes.specs.Turning.{behind as turning}
use Rattle.verilog_stmts.specs.Steps.{stamp_at, last}
use Rattle.verilog_stmts.specs.Stmts.{case_end}
use Rattle.verilog_stmts.proofs.Picks.{taken, left}
use Rattle.verilog_stmts.proofs.case_end.Goals as goal

pub returns-then-c : goal.returns-then-c
unfolding case_end last turning
returns-then-c c =
    taken (last c.args.c.from c.args.c.mid)
    (stamp_at 0x06 c.args.c.last) refl c.if-c.true
    (rw (← c.after-a.ensures, ← c.turn.ensures) refl)

pub returns : goal.returns
unfolding case_end stamp_at
returns c =
    left (last c.args.c.from c.args.c.mid)
    (stamp_at 0x06 c.args.c.last) refl c.if-c.false
    (rw (← c.after-a.ensures, ← c.stamp.ensures) refl)
