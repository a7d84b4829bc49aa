-- `driving::states::numbers_from` meets its contract. The loop's invariant: the elements so far are stored. Assumes nothing.
use Prim.Native.Nat.{◌≤◌, ◌+◌}
use mathlib.Core.Path.{◌≡◌}
use lib.ListN.{get_or}
use lib.Seq.{sets}
use Rattle.state.specs.Rows.{list_of}
use Rattle.driving.proofs.states.numbers_from.Given as goal

abbrev pub invariant-loop-k : goal.invariant-loop-k
invariant-loop-k l =
    (l.k ≤ 32) × (l.out ≡ sets l.initial.out 0 (list_of l.k (λ v. get_or l.numbers (l.from + v) 0)))
