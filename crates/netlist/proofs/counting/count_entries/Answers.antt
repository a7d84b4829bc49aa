-- `netlist::counting::count_entries` meets its contract. The loop: the entries so far are counted. Assumes nothing.
use mathlib.Core.Path.{◌≡◌, ◌∙◌, ap}
use Prim.Native.Nat.{ℕ, ◌≤◌, ◌-◌}
use native.Mathlib.Omega.{arith}
use Rattle.netlist.specs.Uses.{entry_uses}
use Rattle.netlist.proofs.Uses.{entries_none, entries-turn}
use borrow.Author.Rules.{rules}
use Rattle.netlist.proofs.counting.count_entries.Goals as goal

pub loop-k-init : goal.loop-k-init
loop-k-init c =
    (search rules, entries_none _ _)

pub loop-k-preserved : goal.loop-k-preserved
loop-k-preserved c =
    let l = c.loop-k in
    let a = c.args in
    (search rules, entries-turn a.uses.now l.k a.rows.now l.invariant.1 c.count_use.ensures)

pub returns : goal.returns
returns c =
    let l = c.loop-k in
    let a = c.args in
    let e : l.k ≡ a.count = omega arith in
    l.invariant.1 ∙ ap (λ (n : ℕ). entry_uses a.rows.now a.uses.now n) e
