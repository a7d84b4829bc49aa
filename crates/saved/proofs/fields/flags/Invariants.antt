-- `saved::fields::flags` meets its contract. The loop's invariant: all so far are flags, and the place is the next one's. Assumes nothing.
use Prim.Native.Nat.{◌≤◌, ◌+◌, ◌*◌}
use mathlib.Core.Path.{◌≡◌}
use mathlib.Core.Bool.{true}
use Rattle.state.specs.Rows.{all_below}
use Rattle.saved.specs.Saved.{is_flag}
use Rattle.saved.proofs.fields.flags.Given as goal

abbrev pub invariant-loop : goal.invariant-loop
invariant-loop l =
    (l.counter ≤ l.n) × (l.p ≤ l.at + 9 * l.counter) × (l.p ≡ l.at + l.step * l.counter) × (all_below l.counter (λ j. is_flag l.bytes (l.at + l.step * j)) ≡ true)
