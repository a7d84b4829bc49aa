-- `verilog_errors::faults::capped` meets its contract. Assumes nothing.
use borrow.Author.Rules.{rules}
use native.Mathlib.Omega.{arith}
use Rattle.verilog_names.proofs.Chosen.{capped-below, capped-above}
use Rattle.verilog_errors.proofs.faults.capped.Goals as goal

pub returns-then-n-lt16385 : goal.returns-then-n-lt16385
returns-then-n-lt16385 c =
    (capped-below _ c.if-n-lt16385.true, omega arith)

pub returns-else-n-lt16385 : goal.returns-else-n-lt16385
returns-else-n-lt16385 c =
    (capped-above _ c.if-n-lt16385.false, omega arith)
