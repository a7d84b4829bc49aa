-- `hextext::spot` meets its contract. The loop's invariant: the scan from `i` on ends where the whole does.
-- Assumes nothing.
use mathlib.Core.Path.{◌≡◌}
use Prim.Native.Nat.{◌≤◌}
use lib.ListN.{length, drop}
use Rattle.hextext.specs.Scanning.{start, scan}
use Rattle.hextext.specs.Decoding.{found}
use Rattle.hextext.proofs.spot.Given as goal

abbrev pub invariant-loop-b : goal.invariant-loop-b
invariant-loop-b l =
    (l.b-index ≤ length l.text) × (scan (found l.n) l.s (drop l.b-index l.text) ≡ scan (found l.n) start l.text)
