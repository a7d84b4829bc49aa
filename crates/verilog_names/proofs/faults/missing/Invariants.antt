-- `verilog_names::faults::missing` meets its contract. The loop's invariant: the best so far and what is left give the whole.
-- Assumes nothing.
use mathlib.Core.Path.{◌≡◌}
use Prim.Native.Nat.{◌-◌, ◌≤◌}
use Rattle.verilog_source.specs.Names.{lower}
use Rattle.verilog_names.specs.Chosen.{chosen, is_in}
use Rattle.verilog_names.specs.Faults.{missing, nearest}
use Rattle.verilog_names.proofs.faults.missing.Given as goal

abbrev pub invariant-loop-i : goal.invariant-loop-i
invariant-loop-i l =
    (l.best ≤ 65536)
    × (lower l.best (nearest l.places (missing l.numbers (chosen (is_in l.kinds l.roles l.a) (l.count - l.i) l.i) (chosen (is_in l.kinds l.roles l.b) l.count 0)))
    ≡ nearest l.places (missing l.numbers (chosen (is_in l.kinds l.roles l.a) l.count 0) (chosen (is_in l.kinds l.roles l.b) l.count 0)))
