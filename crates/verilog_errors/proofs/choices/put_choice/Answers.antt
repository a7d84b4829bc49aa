-- `verilog_errors::choices::put_choice` meets its contract. Assumes nothing.
use borrow.Author.Rules.{rules}
use Rattle.writing.specs.Ascii.{ascii}
use Rattle.writing.proofs.Buffer.{both}
use Rattle.verilog_errors.specs.Choices.{choice}
use Rattle.verilog_errors.proofs.choices.put_choice.Goals as goal

pub returns-then-first : goal.returns-then-first
unfolding choice
returns-then-first c =
    rw c.if-first.true c.put_spelled.ensures

pub returns : goal.returns
unfolding choice ascii
returns c =
    rw c.if-first.false
    (both _ _ _ _ _ c.put_word-a.ensures c.put_spelled-2.ensures)
