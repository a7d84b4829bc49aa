-- `verilog_tokens::rows::place_in` meets its contract. The loop's invariant: the rows from `i` on, behind `n` of them, place the word.
-- Assumes nothing.
use Prim.Native.Nat.{◌-◌}
use lib.ListN.{length}
use Rattle.verilog_tokens.proofs.Tables.{Placing}
use Rattle.verilog_tokens.proofs.rows.place_in.Given as goal

abbrev pub invariant-loop-i : goal.invariant-loop-i
invariant-loop-i l =
    Placing l.table l.word l.i l.n

abbrev pub decreases-loop-i : goal.decreases-loop-i
decreases-loop-i l =
    length l.table - l.i
