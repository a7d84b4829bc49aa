-- `verilog_names::numbers::place_of` meets its contract. The loop's invariant: those passed and the place among what is left give the
-- place among all. Assumes nothing.
use mathlib.Core.Path.{◌≡◌}
use Prim.Native.Nat.{◌+◌, ◌-◌, ◌≤◌}
use Rattle.verilog_names.specs.Chosen.{chosen, has_role}
use Rattle.verilog_names.specs.Numbers.{place_of}
use Rattle.verilog_names.proofs.numbers.place_of.Given as goal

abbrev pub invariant-loop-i : goal.invariant-loop-i
invariant-loop-i l =
    (l.k ≤ l.i)
    × (l.k + place_of l.numbers (chosen (has_role l.roles l.role) (l.count - l.i) l.i) l.id ≡ place_of l.numbers (chosen (has_role l.roles l.role) l.count 0) l.id)
