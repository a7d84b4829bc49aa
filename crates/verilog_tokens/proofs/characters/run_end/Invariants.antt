-- `verilog_tokens::characters::run_end` meets its contract. The loop's invariant: the run from `i` on ends where the whole does.
-- Assumes nothing.
use mathlib.Core.Path.{◌≡◌}
use Prim.Native.Nat.{◌≤◌, max}
use lib.ListN.{length}
use Rattle.verilog_tokens.specs.Characters.{run_end}
use Rattle.verilog_tokens.proofs.characters.run_end.Given as goal

abbrev pub invariant-loop-i : goal.invariant-loop-i
invariant-loop-i l =
    (l.i ≤ max l.at (length l.text)) × (run_end l.class l.text l.i ≡ run_end l.class l.text l.at)
