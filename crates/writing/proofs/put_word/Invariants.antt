-- `writing::put_word` meets its contract. The loop's invariant: what is still to be put gives the whole.
-- Assumes nothing.
use Prim.Native.Nat.{◌≤◌}
use mathlib.Core.Path.{◌≡◌}
use lib.ListN.{length, drop}
use Rattle.writing.specs.Buffer.{filled, puts}
use Rattle.writing.proofs.put_word.Given as goal

abbrev pub invariant-loop-letter : goal.invariant-loop-letter
invariant-loop-letter l =
    (l.letter-index ≤ length l.word) × (puts (filled l.text l.p) (drop l.letter-index l.word) ≡ puts (filled l.initial.text l.pos) l.word)
