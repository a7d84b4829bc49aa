-- `verilog_errors::faults::put_closing` meets its contract. Assumes nothing.
use borrow.Author.Rules.{rules}
use Rattle.writing.specs.Ascii.{ascii}
use Rattle.verilog_errors.specs.Faults.{closing}
use Rattle.verilog_errors.proofs.faults.put_closing.Goals as goal

pub returns : goal.returns
unfolding closing ascii
returns c =
    c.put_line.ensures
