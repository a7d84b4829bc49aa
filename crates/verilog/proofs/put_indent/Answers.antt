-- `verilog::put_indent` meets its contract. Assumes nothing.
use Rattle.verilog.specs.Verilog.{indent}
use Rattle.verilog.proofs.put_indent.Goals as goal

pub returns : goal.returns
unfolding indent
returns c =
    c.put_many.ensures
