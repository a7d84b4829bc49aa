-- `verilog_names::faults::is_among` meets its contract. The loop's invariant: the name is among the tokens from `i` on where it is among
-- all of them. Assumes nothing.
use mathlib.Core.Path.{◌≡◌}
use Prim.Native.Nat.{◌-◌}
use Rattle.verilog_names.specs.Chosen.{chosen, is_in}
use Rattle.verilog_names.specs.Faults.{is_among}
use Rattle.verilog_names.proofs.faults.is_among.Given as goal

abbrev pub invariant-loop-i : goal.invariant-loop-i
invariant-loop-i l =
    is_among l.numbers (chosen (is_in l.kinds l.roles l.class) (l.count - l.i) l.i) l.id ≡ is_among l.numbers (chosen (is_in l.kinds l.roles l.class) l.count 0) l.id
