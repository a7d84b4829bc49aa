-- `hextext::decode` meets its contract. The loop's invariant: the scan from `i` on ends where the whole does, and the bytes that are
-- still to come, stored behind those that are there, give the whole. Assumes nothing.
use mathlib.Core.Path.{◌≡◌}
use Prim.Native.Nat.{◌≤◌}
use lib.ListN.{length, drop}
use lib.Seq.{sets}
use Rattle.hextext.specs.Scanning.{start, scan}
use Rattle.hextext.specs.Decoding.{full, bytes_from}
use Rattle.hextext.proofs.decode.Given as goal

abbrev pub invariant-loop-b : goal.invariant-loop-b
invariant-loop-b l =
    (l.b-index ≤ length l.text)
    × (scan full l.s (drop l.b-index l.text) ≡ scan full start l.text)
    × (sets l.bytes l.s.count (bytes_from l.s (drop l.b-index l.text)) ≡ sets l.initial.bytes 0 (bytes_from start l.text))
