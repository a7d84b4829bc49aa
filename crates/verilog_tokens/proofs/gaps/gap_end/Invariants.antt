-- `verilog_tokens::gaps::gap_end` meets its contract. The loop's invariant: the gap from `i` on ends where the whole does.
-- Assumes nothing.
use mathlib.Core.Path.{◌≡◌}
use Prim.Native.Nat.{◌-◌}
use lib.ListN.{length}
use Rattle.verilog_tokens.proofs.Comments.{gap_end}
use Rattle.verilog_tokens.proofs.gaps.gap_end.Given as goal

abbrev pub invariant-loop-i : goal.invariant-loop-i
invariant-loop-i l =
    gap_end l.text l.i ≡ gap_end l.text l.at

abbrev pub decreases-loop-i : goal.decreases-loop-i
decreases-loop-i l =
    length l.text - l.i
