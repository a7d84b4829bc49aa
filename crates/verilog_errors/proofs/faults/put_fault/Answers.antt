-- `verilog_errors::faults::put_fault` meets its contract. Assumes nothing.
use borrow.Author.Rules.{rules}
use Rattle.verilog_errors.proofs.Faulting.{fault-whole}
use Rattle.verilog_errors.proofs.faults.put_fault.Goals as goal

pub returns : goal.returns
returns c =
    fault-whole _ _ _ c.scan.ensures c.short-count.ensures c.read.ensures
    c.broken_at-b.ensures c.put_broken.ensures
