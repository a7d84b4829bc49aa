-- `saved::fields::flags_at` meets its contract. The loop's invariant: the elements so far are stored.
-- Assumes nothing.
use Prim.Native.Nat.{◌≤◌, ◌+◌, ◌*◌}
use mathlib.Core.Path.{◌≡◌}
use lib.Seq.{sets}
use Rattle.state.specs.Rows.{list_of}
use Rattle.saved.specs.Saved.{flag_at}
use Rattle.saved.proofs.fields.flags_at.Given as goal

abbrev pub invariant-loop-k : goal.invariant-loop-k
invariant-loop-k l =
    (l.k ≤ 32) × (l.p ≤ l.at + 9 * l.k) × (l.p ≡ l.at + l.step * l.k) × (l.a ≡ sets l.initial.a 0 (list_of l.k (λ j. flag_at l.bytes (l.at + l.step * j))))
