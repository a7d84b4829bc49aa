-- `verilog_errors::found::put_valued` meets its contract. Assumes nothing.
use borrow.Author.Rules.{rules}
use Rattle.writing.specs.Ascii.{ascii}
use Rattle.writing.proofs.Buffer.{both}
use Rattle.verilog_errors.specs.Found.{valued}
use Rattle.verilog_errors.proofs.found.put_valued.Goals as goal

pub returns : goal.returns
unfolding ascii valued
returns c =
    both _ _ _ _ _ c.put_word-a.ensures
    c.put_decimal.ensures
