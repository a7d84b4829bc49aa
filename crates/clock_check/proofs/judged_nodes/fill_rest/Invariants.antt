-- `clock_check::judged_nodes::fill_rest` meets its contract. The loop: the widths so far are stored. Assumes nothing.
use mathlib.Core.Path.{◌≡◌}
use Prim.Native.Nat.{◌-◌, ◌≤◌}
use lib.ListN.{replicate}
use lib.Seq.{sets}
use Rattle.clock_check.proofs.judged_nodes.fill_rest.Given as goal

abbrev pub invariant-loop-n : goal.invariant-loop-n
invariant-loop-n l =
    (l.from ≤ l.n) × (l.n ≤ 4096) × (l.sizes ≡ sets l.initial.sizes l.from (replicate (l.n - l.from) l.width))
