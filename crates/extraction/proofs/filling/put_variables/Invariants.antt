-- `filling::put_variables` meets its contract. The loop's invariant: the variables below `v` have their nodes. Assumes nothing.
use mathlib.Core.Path.{◌≡◌, ap, ◌∙◌}
use Prim.Native.Nat.{◌≤◌}
use native.Mathlib.Omega.{arith}
use Rattle.extraction.specs.Filling.{variables_below}
use Rattle.extraction.proofs.Tables.{variables-none, variables-turn}
use borrow.Author.Rules.{rules}
use Rattle.extraction.proofs.filling.put_variables.Given as goal

abbrev pub invariant-loop-v : goal.invariant-loop-v
invariant-loop-v l =
    (l.v ≤ l.variables) × (l.nodes ≡ variables_below l.v l.initial.nodes)
