-- `verilog_tokens::rows::first_of` meets its contract. The loop's invariant: the first row that fits is one from `i` on.
-- Assumes nothing.
use Prim.Native.Nat.{◌-◌}
use lib.ListN.{length}
use Rattle.verilog_tokens.proofs.Tables.{Opening}
use Rattle.verilog_tokens.proofs.rows.first_of.Given as goal

abbrev pub invariant-loop-i : goal.invariant-loop-i
invariant-loop-i l =
    Opening l.table l.text l.i

abbrev pub decreases-loop-i : goal.decreases-loop-i
decreases-loop-i l =
    length l.table - l.i
