-- `verilog_names::order::next_of` meets its contract. The loop's invariant: the first from `i` on is the first of all.
-- Assumes nothing.
use mathlib.Core.Path.{◌≡◌}
use Prim.Native.Nat.{◌-◌}
use Rattle.verilog_names.specs.Chosen.{chosen, has_role}
use Rattle.verilog_names.specs.Order.{first_or}
use Rattle.verilog_names.proofs.order.next_of.Given as goal

abbrev pub invariant-loop-i : goal.invariant-loop-i
invariant-loop-i l =
    first_or l.n (chosen (has_role l.roles l.role) (l.n - l.i) l.i) ≡ first_or l.n (chosen (has_role l.roles l.role) (l.n - l.from) l.from)
