-- `verilog_names::order::target_of` meets its contract. The loop's invariant: the first from `i` on is the first of all.
-- Assumes nothing.
use mathlib.Core.Path.{◌≡◌}
use Prim.Native.Nat.{◌-◌}
use Rattle.verilog_names.specs.Chosen.{chosen}
use Rattle.verilog_names.specs.Order.{first_or, is_target}
use Rattle.verilog_names.proofs.order.target_of.Given as goal

abbrev pub invariant-loop-i : goal.invariant-loop-i
invariant-loop-i l =
    first_or l.n (chosen (is_target l.numbers l.roles l.id) (l.n - l.i) l.i) ≡ first_or l.n (chosen (is_target l.numbers l.roles l.id) (l.n - 0) 0)
