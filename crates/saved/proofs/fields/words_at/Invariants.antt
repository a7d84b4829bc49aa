-- `saved::fields::words_at` meets its contract. The loop's invariant: the elements so far are stored, and the place is the next one's. Assumes nothing.
use Prim.Native.Nat.{◌≤◌, ◌+◌, ◌*◌}
use mathlib.Core.Path.{◌≡◌}
use lib.ListN.{length}
use lib.Seq.{sets}
use Rattle.sheet.specs.Reading.{word_of}
use Rattle.state.specs.Rows.{list_of}
use Rattle.saved.proofs.fields.words_at.Given as goal

abbrev pub invariant-loop-k : goal.invariant-loop-k
invariant-loop-k g l =
    (l.k ≤ g.row.N) × (length l.a ≡ g.row.N) × (l.p ≤ l.at + 9 * l.k) × (l.p ≡ l.at + l.step * l.k)
    × (l.a ≡ sets l.initial.a 0 (list_of l.k (λ j. word_of l.bytes (l.at + l.step * j))))
