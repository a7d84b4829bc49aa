-- `workload::row_of` meets its contract. The loop's invariant: the numbers so far are stored. Assumes nothing.
use Prim.Native.Nat.{◌≤◌, ◌+◌}
use mathlib.Core.Path.{◌≡◌}
use lib.ListN.{get_or}
use lib.Seq.{sets}
use Rattle.state.specs.Rows.{list_of}
use Rattle.workload.proofs.row_of.Given as goal

abbrev pub invariant-loop-k : goal.invariant-loop-k
invariant-loop-k l =
    (l.k ≤ 16) × (l.a ≡ sets l.initial.a 0 (list_of l.k (λ v. get_or l.numbers (l.at + v) 0)))
