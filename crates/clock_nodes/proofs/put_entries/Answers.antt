-- `clock_nodes::put_entries` meets its contract. The loop: the entries so far put. Assumes nothing.
use mathlib.Core.Path.{◌≡◌}
use native.Mathlib.Omega.{arith}
use Rattle.clock_nodes.proofs.Turns.{entries_none, entries-more}
use Rattle.clock_nodes.proofs.put_entries.Goals as goal

pub loop-c-init : goal.loop-c-init
loop-c-init c =
    let a = c.args in
    (omega arith, entries_none a.nodes.now a.rows.now a.row _)

pub loop-c-preserved : goal.loop-c-preserved
loop-c-preserved c =
    let a = c.args in (
      omega arith,
      entries-more a.nodes.now a.rows.now a.row _ _ c.loop-c.invariant.1
          c.entry_at.ensures c.cell_in.ensures,
    )

pub returns : goal.returns
returns c =
    let e : c.loop-c.c ≡ 33 = omega arith in
    rw e at c.loop-c.invariant.1
