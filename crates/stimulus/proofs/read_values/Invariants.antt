-- `stimulus::read_values` meets its contract. The loop's invariant: the values from input `k` on, taken from `at` on and put beside those
-- that are there, give the whole. Assumes nothing.
use mathlib.Core.Path.{◌≡◌}
use Prim.Native.Nat.{◌≤◌, ◌-◌}
use lib.ListN.{length}
use Rattle.std.specs.Prelude.{max}
use Rattle.stimulus.specs.Lines.{values_from, values_of}
use Rattle.stimulus.proofs.read_values.Given as goal

abbrev pub invariant-loop-k : goal.invariant-loop-k
invariant-loop-k l =
    (l.k ≤ max 1 l.n)
    × (l.at ≤ length l.line)
    × (length l.value ≡ 16)
    × (length l.unknown ≡ 16)
    × (values_from l.line l.widths (l.n - l.k) l.k l.at l.value l.unknown ≡ values_of l.line l.widths l.inputs l.from)
