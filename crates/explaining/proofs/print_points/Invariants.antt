-- `explaining::print_points` meets its contract. The loop's invariant: what is still to be printed gives the whole. Assumes nothing.
use Prim.Native.Nat.{◌≤◌, ◌+◌, ◌-◌}
use mathlib.Core.Path.{◌≡◌}
use Rattle.writing.specs.Buffer.{filled}
use Rattle.naming.specs.Naming.{name_of}
use Rattle.explaining.specs.Walking.{points_at}
use Rattle.explaining.proofs.print_points.Given as goal

abbrev pub invariant-loop-k : goal.invariant-loop-k
invariant-loop-k l =
    (l.k ≤ l.n)
    × (points_at (name_of l.names) l.sheet l.definitions (l.n - l.k) (l.k + 1) l.at (filled l.text l.p) ≡ points_at (name_of l.names) l.sheet l.definitions l.n 1 l.at (filled l.initial.text l.pos))
