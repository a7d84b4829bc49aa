-- `verilog_errors::notes::put_permission` meets its contract. Assumes nothing.
use borrow.Author.Rules.{rules}
use Rattle.writing.specs.Ascii.{ascii}
use Rattle.verilog_errors.specs.Notes.{permission, permissions}
use Rattle.verilog_errors.proofs.notes.put_permission.Goals as goal

pub returns : goal.returns
unfolding permission permissions ascii
returns c =
    c.put_line.ensures
