-- `stimulus::words::run_end` meets its contract. The loop's invariant: the run from `i` on ends where the whole does.
-- Assumes nothing.
use mathlib.Core.Path.{◌≡◌}
use Prim.Native.Nat.{◌≤◌}
use lib.ListN.{length}
use Rattle.std.specs.Prelude.{max}
use Rattle.stimulus.specs.Words.{run_end}
use Rattle.stimulus.proofs.words.run_end.Given as goal

abbrev pub invariant-loop-i : goal.invariant-loop-i
invariant-loop-i l =
    (l.i ≤ max l.at (length l.line)) × (run_end l.class l.line l.i ≡ run_end l.class l.line l.at)
