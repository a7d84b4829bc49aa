-- `verilog_errors::choices::put_row` meets its contract. Assumes nothing.
use borrow.Author.Rules.{rules}
use mathlib.Core.Path.{sym}
use Rattle.writing.proofs.Buffer.{puts-nil}
use Rattle.verilog_errors.specs.Choices.{row}
use Rattle.verilog_errors.proofs.choices.put_row.Goals as goal

pub returns-then-could : goal.returns-then-could
unfolding row
returns-then-could c =
    rw c.if-could.true c.put_choice.ensures

pub returns : goal.returns
unfolding row
returns c =
    rw c.if-could.false (sym (puts-nil _))
