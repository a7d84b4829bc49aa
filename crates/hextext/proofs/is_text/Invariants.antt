-- `hextext::is_text` meets its contract. The loop's invariant: the rest from `i` on is text exactly if the whole is.
-- Assumes nothing.
use mathlib.Core.Path.{◌≡◌}
use Prim.Native.Nat.{◌≤◌}
use lib.ListN.{length, drop}
use Rattle.hextext.specs.Characters.{is_text}
use Rattle.hextext.proofs.is_text.Given as goal

abbrev pub invariant-loop-b : goal.invariant-loop-b
invariant-loop-b l =
    (l.b-index ≤ length l.bytes) × (is_text (drop l.b-index l.bytes) ≡ is_text l.bytes)
