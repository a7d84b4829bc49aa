-- `verilog_scan::scan` meets its contract. Assumes nothing.
use Rattle.verilog_scan.proofs.Filling.{scanned-short, scanned-long}
use Rattle.verilog_scan.proofs.scan.Goals as goal

pub returns-then-text-gt16384 : goal.returns-then-text-gt16384
returns-then-text-gt16384 c =
    let a = c.args in
    let i1 = c.if-text-gt16384 in
    scanned-long a.text.now a.kinds.now a.numbers.now a.places.now i1.true

pub returns : goal.returns
returns c =
    scanned-short _ _ _ _ _ _ _ _ c.if-text-gt16384.false c.fill.ensures
