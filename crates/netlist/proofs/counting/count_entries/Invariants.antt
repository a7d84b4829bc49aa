-- `netlist::counting::count_entries` meets its contract. The loop: the entries so far are counted. Assumes nothing.
use mathlib.Core.Path.{◌≡◌, ◌∙◌, ap}
use Prim.Native.Nat.{◌≤◌}
use native.Mathlib.Omega.{arith}
use Rattle.netlist.specs.Uses.{entry_uses}
use Rattle.netlist.proofs.Uses.{entries_none, entries-turn}
use borrow.Author.Rules.{rules}
use Rattle.netlist.proofs.counting.count_entries.Given as goal

abbrev pub invariant-loop-k : goal.invariant-loop-k
invariant-loop-k l =
    (l.k ≤ l.count) × (l.uses ≡ entry_uses l.rows l.initial.uses l.k)
