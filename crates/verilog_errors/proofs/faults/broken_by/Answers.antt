-- `verilog_errors::faults::broken_by` meets its contract. Assumes nothing.
use borrow.Author.Rules.{rules}
use Rattle.verilog_errors.proofs.Faulting.{by-none, by-target, by-declared}
use Rattle.verilog_errors.proofs.faults.broken_by.Goals as goal

pub returns-then-n-f : goal.returns-then-n-f
returns-then-n-f c =
    by-none _ _ _ _ _ c.first_named-f.ensures.0 c.if-n-f.true c.breaks.ensures

pub returns-then-roles-t-eq4 : goal.returns-then-roles-t-eq4
returns-then-roles-t-eq4 c =
    by-target _ _ _ _ _ c.first_named-f.ensures.0 c.if-n-f.false
    c.if-roles-t-eq4.true c.of_target.ensures

pub returns : goal.returns
returns c =
    by-declared _ _ _ _ _ c.first_named-f.ensures.0 c.if-n-f.false
    c.if-roles-t-eq4.false c.of_declared.ensures
