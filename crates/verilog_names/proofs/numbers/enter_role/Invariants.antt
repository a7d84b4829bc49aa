-- `verilog_names::numbers::enter_role` meets its contract. The loop's invariant: the tokens from `i` on are entered, from `k` on.
-- Assumes nothing.
use Rattle.verilog_names.proofs.Entering.{Entering}
use Rattle.verilog_names.proofs.numbers.enter_role.Given as goal

abbrev pub invariant-loop-i : goal.invariant-loop-i
invariant-loop-i l =
    Entering l.numbers l.roles l.role l.count l.above l.initial.table l.table l.k l.i

abbrev pub decreases-loop-i : goal.decreases-loop-i
decreases-loop-i l =
    l.i
