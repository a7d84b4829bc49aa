-- `saved::fields::places_at` meets its contract. The loop's invariant: the elements so far are stored. Assumes nothing.
use Prim.Native.Nat.{◌≤◌, ◌+◌}
use mathlib.Core.Path.{◌≡◌}
use lib.Seq.{sets}
use lib.ListN.{get_or}
use Rattle.state.specs.Rows.{list_of}
use Rattle.saved.proofs.fields.places_at.Given as goal

abbrev pub invariant-loop-i : goal.invariant-loop-i
invariant-loop-i l =
    (l.i ≤ 8) × (l.a ≡ sets l.initial.a 0 (list_of l.i (λ k. get_or l.bytes (l.at + k) 0)))
