-- `writing::put_many` meets its contract. The loop's invariant: what is still to be put gives the whole.
-- Assumes nothing.
use Prim.Native.Nat.{◌≤◌, ◌-◌}
use mathlib.Core.Path.{◌≡◌}
use lib.ListN.{replicate}
use Rattle.writing.specs.Buffer.{filled, puts}
use Rattle.writing.proofs.put_many.Given as goal

abbrev pub invariant-loop : goal.invariant-loop
invariant-loop l =
    (l.counter ≤ l.n) × (puts (filled l.text l.p) (replicate (l.n - l.counter) l.b) ≡ puts (filled l.initial.text l.pos) (replicate l.n l.b))
