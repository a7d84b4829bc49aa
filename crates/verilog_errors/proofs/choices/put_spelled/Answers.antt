-- `verilog_errors::choices::put_spelled` meets its contract. Assumes nothing.
use borrow.Author.Rules.{rules}
use Rattle.writing.specs.Ascii.{ascii}
use Rattle.verilog_errors.specs.Choices.{spelled, spellings}
use Rattle.verilog_errors.proofs.choices.put_spelled.Goals as goal

pub returns : goal.returns
unfolding spelled spellings ascii
returns c =
    c.put_line.ensures
