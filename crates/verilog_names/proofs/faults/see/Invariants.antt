-- `verilog_names::faults::see` meets its contract. The loop's invariant: what is still to be marked gives the whole. Assumes nothing.
use mathlib.Core.Path.{◌≡◌}
use Prim.Native.Nat.{◌-◌}
use Rattle.verilog_names.specs.Chosen.{chosen, is_in}
use Rattle.verilog_names.specs.Faults.{marked}
use Rattle.verilog_names.proofs.faults.see.Given as goal

abbrev pub invariant-loop-i : goal.invariant-loop-i
invariant-loop-i l =
    marked l.numbers (chosen (is_in l.kinds l.roles l.class) (l.count - l.i) l.i) l.seen ≡ marked l.numbers (chosen (is_in l.kinds l.roles l.class) l.count 0) l.initial.seen
