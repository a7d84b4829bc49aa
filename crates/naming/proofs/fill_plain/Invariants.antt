-- `naming::fill_plain` meets its contract. The loop's invariant: the bytes still to be stored give the whole table.
-- Assumes nothing.
use Prim.Native.Nat.{◌≤◌}
use mathlib.Core.Path.{◌≡◌, sym, ◌∙◌}
use native.Mathlib.Omega.{arith}
use borrow.Author.Rules.{rules}
use lib.ListN.{drop}
use lib.Seq.{sets}
use Rattle.naming.specs.Naming.{plain_table, plainly}
use Rattle.naming.proofs.Naming.{plain-start, plain_step, plain_end, plain_number-≤}
use Rattle.naming.proofs.fill_plain.Given as goal

abbrev pub invariant-loop-k : goal.invariant-loop-k
invariant-loop-k l =
    (l.k ≤ 2560) × (sets l.names l.k (drop l.k (plain_table l.inputs l.registers)) ≡ plainly l.initial.names l.inputs l.registers)
