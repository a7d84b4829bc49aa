-- `saved::fields::counts_at` meets its contract. The loop's invariant: the elements so far are stored. Assumes nothing.
use Prim.Native.Nat.{◌≤◌, ◌+◌, ◌*◌}
use mathlib.Core.Path.{◌≡◌}
use lib.Seq.{sets}
use Rattle.saved.specs.Saved.{long_of}
use Rattle.state.specs.Rows.{list_of}
use Rattle.saved.proofs.fields.counts_at.Given as goal

abbrev pub invariant-loop-u : goal.invariant-loop-u
invariant-loop-u l =
    (l.u ≤ 4) × (l.a ≡ sets l.initial.a 0 (list_of l.u (λ k. long_of l.bytes (l.at + 8 * k))))
