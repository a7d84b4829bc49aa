-- `waveform::put_comment` meets its contract. The loop's invariant: what is still to be put gives the whole.
-- Assumes nothing.
use Prim.Native.Nat.{◌≤◌}
use mathlib.Core.Path.{◌≡◌, refl, sym, ◌∙◌, ap}
use mathlib.Core.List.{[], ◌∷◌, map}
use borrow.Author.Rules.{rules}
use lib.ListN.{length, drop}
use Rattle.writing.specs.Buffer.{filled, puts}
use Rattle.waveform.specs.Waveform.{comment_byte}
use Rattle.waveform.proofs.Waveform.{comment-step, comment-end}
use Rattle.waveform.proofs.put_comment.Given as goal

abbrev pub invariant-loop-b : goal.invariant-loop-b
invariant-loop-b l =
    (l.b-index ≤ length l.file)
    × (puts (filled l.text l.p) (map comment_byte (drop l.b-index l.file)) ≡ puts (filled l.initial.text l.pos) (map comment_byte l.file))
