-- `verilog_errors::faults::put_opening` meets its contract. Assumes nothing.
use borrow.Author.Rules.{rules}
use Rattle.writing.specs.Ascii.{ascii}
use Rattle.verilog_errors.specs.Faults.{opening}
use Rattle.verilog_errors.proofs.faults.put_opening.Goals as goal

pub returns : goal.returns
unfolding opening ascii
returns c =
    c.put_line.ensures
