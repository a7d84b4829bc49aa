-- `verilog_stmts::control` meets its contract. Assumes nothing.
use Rattle.verilog_exprs.specs.Rows.{expected}
use Rattle.verilog_stmts.specs.Events.{term, listed, event_list, waits, counting, control}
use Rattle.verilog_stmts.proofs.Picks.{taken, left, behind, onward}
use Rattle.verilog_stmts.proofs.control.Goals as goal

pub returns-then-is_next : goal.returns-then-is_next
unfolding control counting waits event_list listed
returns-then-is_next c =
    behind (λ s. counting
    c.args.kinds.now
    c.args.numbers.now
    c.args.count s)
    (rw (← c.expect.ensures)
    c.write_pair-a.ensures)
    (behind (λ s. waits c.args.kinds.now c.args.numbers.now c.args.count
    c.write_pair-a.result.pos s) c.write-b.ensures
    (taken (event_list c.args.kinds.now c.args.numbers.now c.args.count
    c.write_pair-a.result.pos) (term c.args.kinds.now c.args.numbers.now 0)
    c.is_next.ensures c.if-is_next.true
    (onward (expected c.args.kinds.now 21) c.expect-then-is_next.ensures
    (rw (← c.after-c.ensures, ← c.left.ensures) c.events-e.ensures))))

pub returns : goal.returns
unfolding control counting waits
returns c =
    behind (λ s. counting c.args.kinds.now
    c.args.numbers.now
    c.args.count s)
    (rw (← c.expect.ensures)
    c.write_pair-a.ensures)
    (behind (λ s. waits c.args.kinds.now
    c.args.numbers.now
    c.args.count
    c.write_pair-a.result.pos s) c.write-b.ensures
    (left (event_list c.args.kinds.now
    c.args.numbers.now
    c.args.count
    c.write_pair-a.result.pos)
    (term c.args.kinds.now
    c.args.numbers.now 0)
    c.is_next.ensures c.if-is_next.false c.term.ensures))
