-- `verilog_tokens::gaps::closing` meets its contract. The loop's invariant: what is left to do from `i` on makes the whole.
-- Assumes nothing.
use lib.ListN.{length}
use Rattle.verilog_tokens.proofs.Comments.{Closing}
use Rattle.verilog_tokens.proofs.gaps.closing.Given as goal

abbrev pub invariant-loop-i : goal.invariant-loop-i
invariant-loop-i l =
    Closing l.text l.at l.i
