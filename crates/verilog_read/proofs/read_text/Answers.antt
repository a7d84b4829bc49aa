-- `verilog_read::read_text` meets its contract. Assumes nothing.
use borrow.Author.Rules.{rules}
use Rattle.verilog_read.proofs.Wholes.{text-unlent, text-long, text-read}
use Rattle.verilog_read.proofs.Compiled.{as-compiled}
use Rattle.verilog_read.proofs.read_text.Goals as goal

pub returns-then-lent-ne8192 : goal.returns-then-lent-ne8192
returns-then-lent-ne8192 c =
    as-compiled _ _ (text-unlent _ _ c.if-lent-ne8192.true c.refusal.ensures)

pub returns-then-text-gt16384 : goal.returns-then-text-gt16384
returns-then-text-gt16384 c =
    as-compiled _ _ (text-long _ _ c.if-lent-ne8192.false c.if-text-gt16384.true c.refusal-then-text-gt16384.ensures)

pub returns : goal.returns
returns c =
    as-compiled _ _ (text-read _ _ c.if-lent-ne8192.false c.if-text-gt16384.false c.scanned.ensures)
