-- `rules::waits_of` meets its contract. The loop's invariant: the waits of the threads below `i` are counted. Assumes nothing.
use mathlib.Core.Path.{◌≡◌}
use Prim.Native.Nat.{◌*◌, ◌≤◌}
use Rattle.rules.specs.Judging.{waits_of}
use Rattle.rules.proofs.waits_of.Given as goal

abbrev pub invariant-loop-i : goal.invariant-loop-i
invariant-loop-i l =
    (l.i ≤ l.threads) × (l.count ≤ 256 * l.i) × (l.count ≡ waits_of l.sheet l.code l.sizes l.i)
