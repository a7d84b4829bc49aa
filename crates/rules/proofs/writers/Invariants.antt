-- `rules::writers` meets its contract. The loop's invariant: the masks of the threads below `i` are stored. Assumes nothing.
use mathlib.Core.Path.{◌≡◌}
use Prim.Native.Nat.{◌≤◌}
use Rattle.rules.specs.Writers.{plain_below, later_below}
use Rattle.rules.proofs.writers.Given as goal

abbrev pub invariant-loop-i : goal.invariant-loop-i
invariant-loop-i l =
    (l.i ≤ l.count) × (l.plain ≡ plain_below l.sheet l.code l.sizes l.inputs l.i l.initial.plain)
    × (l.later ≡ later_below l.sheet l.code l.sizes l.inputs l.i l.initial.later)
