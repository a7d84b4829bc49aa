-- `verilog_stmts::assignment` meets its contract. Assumes nothing.
use Rattle.verilog_stmts.specs.Steps.{stamp_at, named}
use Rattle.verilog_stmts.specs.Stmts.{value, label_at, assignment, assigned, now, later}
use Rattle.verilog_stmts.proofs.Picks.{taken, left, behind}
use Rattle.verilog_stmts.proofs.assignment.Goals as goal

pub returns-then-is_next : goal.returns-then-is_next
unfolding assignment assigned now
returns-then-is_next c =
    behind (λ s. assigned c.args.kinds.now
    c.args.numbers.now
    c.args.count
    (value c.args.kinds.now
    c.args.numbers.now
    c.args.count)
    (label_at c.args.kinds.now
    c.args.numbers.now)
    c.args.at.pos s)
    (behind (λ s. named c.args.kinds.now
    c.args.numbers.now s)
    c.write-a.ensures
    c.named-n.ensures)
    (taken (now c.args.kinds.now
    c.args.numbers.now
    c.args.count
    (value c.args.kinds.now
    c.args.numbers.now
    c.args.count)
    (label_at c.args.kinds.now
    c.args.numbers.now))
    (later c.args.kinds.now
    c.args.numbers.now
    c.args.count
    (value c.args.kinds.now
    c.args.numbers.now
    c.args.count)
    (label_at c.args.kinds.now
    c.args.numbers.now)
    c.args.at.pos)
    c.is_next.ensures c.if-is_next.true
    (rw (← c.after.ensures) c.closed.ensures))

pub returns : goal.returns
unfolding assignment assigned later stamp_at
returns c =
    behind (λ s. assigned c.args.kinds.now
    c.args.numbers.now
    c.args.count
    (value c.args.kinds.now
    c.args.numbers.now
    c.args.count)
    (label_at c.args.kinds.now
    c.args.numbers.now)
    c.args.at.pos s)
    (behind (λ s. named c.args.kinds.now
    c.args.numbers.now s)
    c.write-a.ensures
    c.named-n.ensures)
    (left (now c.args.kinds.now
    c.args.numbers.now
    c.args.count
    (value c.args.kinds.now
    c.args.numbers.now
    c.args.count)
    (label_at c.args.kinds.now
    c.args.numbers.now))
    (later c.args.kinds.now
    c.args.numbers.now
    c.args.count
    (value c.args.kinds.now
    c.args.numbers.now
    c.args.count)
    (label_at c.args.kinds.now
    c.args.numbers.now)
    c.args.at.pos)
    c.is_next.ensures c.if-is_next.false
    (rw (← c.expect.ensures, ← c.stamp.ensures) c.closed-2.ensures))
