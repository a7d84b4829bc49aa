-- `verilog_stmts::event` meets its contract. Assumes nothing.
use Rattle.verilog_stmts.specs.Events.{event, edge, term}
use Rattle.verilog_stmts.proofs.Picks.{taken, left}
use Rattle.verilog_stmts.proofs.event.Goals as goal

pub returns-then-is_next : goal.returns-then-is_next
unfolding event edge
returns-then-is_next c =
    taken (edge c.args.kinds.now
    c.args.numbers.now 1) _ c.is_next.ensures
    c.if-is_next.true (rw (← c.after.ensures) c.term.ensures)

pub returns-then-is_next-2 : goal.returns-then-is_next-2
unfolding event edge
returns-then-is_next-2 c =
    left (edge c.args.kinds.now
    c.args.numbers.now 1) _
    c.is_next.ensures c.if-is_next.false
    (taken (edge c.args.kinds.now
    c.args.numbers.now 2)
    (term c.args.kinds.now
    c.args.numbers.now 0)
    c.is_next-2.ensures c.if-is_next-2.true
    (rw (← c.after-then-is_next-2.ensures) c.term-then-is_next-2.ensures))

pub returns : goal.returns
unfolding event
returns c =
    left (edge c.args.kinds.now
    c.args.numbers.now 1) _
    c.is_next.ensures c.if-is_next.false
    (left (edge c.args.kinds.now
    c.args.numbers.now 2)
    (term c.args.kinds.now
    c.args.numbers.now 0) c.is_next-2.ensures
    c.if-is_next-2.false c.term-2.ensures)
