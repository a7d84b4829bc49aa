-- `clock_nodes::high_row` meets its contract. The loop: the registers so far counted. Assumes nothing.
use mathlib.Core.Path.{◌≡◌}
use native.Mathlib.Omega.{arith}
use Rattle.masks.specs.Masks.{bits}
use Rattle.clock_nodes.proofs.Turns.{high-none, high-next}
use Rattle.clock_nodes.proofs.high_row.Goals as goal

pub loop-r-init : goal.loop-r-init
loop-r-init c =
    let a = c.args in
    (omega arith, high-none a.nodes.now a.rows.now a.row (bits a.written) c.entry_at.ensures c.higher-x.ensures)

pub loop-r-preserved : goal.loop-r-preserved
loop-r-preserved c =
    let a = c.args in (
      omega arith,
      high-next a.nodes.now a.rows.now a.row (bits a.written) _ c.loop-r.invariant.1
          c.has.ensures c.entry_at-in-loop-r.ensures
          c.high_by-x.ensures,
    )

pub returns : goal.returns
returns c =
    let e : c.loop-r.r ≡ 32 = omega arith in
    rw e at c.loop-r.invariant.1
