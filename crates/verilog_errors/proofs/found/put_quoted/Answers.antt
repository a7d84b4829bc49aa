-- `verilog_errors::found::put_quoted` meets its contract. Assumes nothing.
use borrow.Author.Rules.{rules}
use Rattle.writing.specs.Ascii.{ascii}
use Rattle.writing.proofs.Buffer.{both}
use Rattle.verilog_errors.specs.Found.{quoted}
use Rattle.verilog_errors.proofs.found.put_quoted.Goals as goal

pub returns : goal.returns
unfolding ascii quoted
returns c =
    both _ _ _ _ _
    (both _ _ _ _ _ c.put_word-a.ensures
    (rw c.size_at-n.ensures at
    c.put_part-b.ensures)) c.put_word.ensures
