-- `verilog::print_module` meets its contract. Assumes nothing.
use mathlib.Core.Path.{refl}
use Prim.Native.Nat.{◌+◌}
use native.Mathlib.Omega.{arith}
use Rattle.writing.specs.Ascii.{ascii}
use Rattle.naming.specs.Naming.{name_of}
use Rattle.verilog.proofs.Printing.{module-path}
use Rattle.verilog.proofs.print_module.Goals as goal

pub print_wires-w-requires : goal.print_wires-w-requires
print_wires-w-requires c =
    omega (arith, c.counts_of-counts.ensures.2)

pub returns : goal.returns
unfolding ascii
returns c =
    let a = c.args in
    let l = a.l in
    let e = c.counts_of-counts.ensures in
    module-path (name_of a.names.now) a.sheet.now l.definitions l.inputs l.registers l.wires l.threads l.functions
    l.widths _ _ _ _ _ e.0 (λ j. e.0 j + e.1 j) e.1 refl
    c.put_word-a.ensures c.put_ports-b.ensures c.put_word-c.ensures
    c.put_declarations-d.ensures c.print_functions-f.ensures c.print_wires-w.ensures
    c.print_threads-t.ensures c.put_word.ensures
