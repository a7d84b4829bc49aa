-- `verilog_errors::faults::broken_at` meets its contract. Assumes nothing.
use borrow.Author.Rules.{rules}
use Rattle.verilog_errors.proofs.Faulting.{at_none, at-token}
use Rattle.verilog_errors.proofs.faults.broken_at.Goals as goal

pub returns-then-n-t : goal.returns-then-n-t
returns-then-n-t c =
    at_none _ _ _ _ _ c.capped-n.ensures.0 c.token_at-t.ensures.0 c.if-n-t.true
    c.breaks.ensures

pub returns : goal.returns
returns c =
    at-token _ _ _ _ _ c.capped-n.ensures.0 c.token_at-t.ensures.0 c.if-n-t.false
    c.broken_by.ensures
