-- `verilog_names::tokens::count_of` meets its contract. The loop's invariant: those so far and those from `i` on are all.
-- Assumes nothing.
use mathlib.Core.Path.{◌≡◌}
use Prim.Native.Nat.{◌+◌, ◌-◌}
use lib.ListN.{length}
use Rattle.verilog_names.specs.Chosen.{chosen, has_role}
use Rattle.verilog_names.proofs.tokens.count_of.Given as goal

abbrev pub invariant-loop-i : goal.invariant-loop-i
invariant-loop-i l =
    l.n + length (chosen (has_role l.roles l.role) (l.count - l.i) l.i) ≡ length (chosen (has_role l.roles l.role) l.count 0)
