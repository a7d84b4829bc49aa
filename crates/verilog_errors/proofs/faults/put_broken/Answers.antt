-- `verilog_errors::faults::put_broken` meets its contract. Assumes nothing.
use borrow.Author.Rules.{rules}
use Rattle.verilog_errors.proofs.Faulting.{broken-whole}
use Rattle.verilog_errors.proofs.faults.put_broken.Goals as goal

pub returns : goal.returns
returns c =
    broken-whole _ _ _ _ c.put_opening-p.ensures c.put_quoted-q.ensures
    c.put_closing-r.ensures c.put_first.ensures
