-- `verilog::print` meets its contract. Assumes nothing.
use Rattle.verilog.proofs.Reading.{print-refused, print-read, widths-small}
use Rattle.verilog.proofs.print.Goals as goal

pub returns-then-number-ne0 : goal.returns-then-number-ne0
returns-then-number-ne0 c =
    print-refused _ _ _ _ c.read-read.ensures c.if-number-ne0.true

pub print_module-length-requires : goal.print_module-length-requires
print_module-length-requires c =
    widths-small _ c.read-read.ensures

pub returns : goal.returns
returns c =
    print-read _ _ _ _ c.read-read.ensures c.if-number-ne0.false
    c.print_module-length.ensures
