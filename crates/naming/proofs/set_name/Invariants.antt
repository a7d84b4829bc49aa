-- `naming::set_name` meets its contract. The loop's invariant: the bytes still to be stored give the whole row.
-- Assumes nothing.
use Prim.Native.Nat.{◌≤◌, ◌+◌, ◌*◌}
use mathlib.Core.Path.{◌≡◌, sym, ◌∙◌}
use native.Mathlib.Omega.{arith}
use borrow.Author.Rules.{rules}
use lib.ListN.{drop, take}
use lib.Seq.{sets}
use Rattle.naming.specs.Naming.{padded, renamed}
use Rattle.naming.proofs.Naming.{renamed-past, row-start, sets-step, row_done, length-padded}
use Rattle.naming.proofs.set_name.Given as goal

abbrev pub invariant-loop-j : goal.invariant-loop-j
invariant-loop-j l =
    (l.j ≤ 32) × (sets l.names (l.v * 32 + l.j) (drop l.j (padded 32 (take 31 l.name))) ≡ renamed l.initial.names l.v l.name)
