-- `verilog_read::bytes::byte_at` meets its contract. Assumes nothing.
use borrow.Author.Rules.{rules}
use Rattle.verilog_read.proofs.Turns.{past-zero}
use Rattle.verilog_read.proofs.bytes.byte_at.Goals as goal

pub returns-else-i-sheet : goal.returns-else-i-sheet
returns-else-i-sheet c =
    past-zero c.args.sheet.now c.args.i c.if-i-sheet.false
