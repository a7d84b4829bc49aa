-- `clock_nodes::low_row` meets its contract. The loop: the registers so far counted. Assumes nothing.
use mathlib.Core.Path.{◌≡◌}
use native.Mathlib.Omega.{arith}
use Rattle.masks.specs.Masks.{bits}
use Rattle.clock_nodes.proofs.Turns.{low-none, low-more}
use Rattle.clock_nodes.proofs.low_row.Goals as goal

pub loop-r-init : goal.loop-r-init
loop-r-init c =
    let a = c.args in (
      omega arith,
      low-none a.nodes.now a.lows.now a.rows.now a.row (bits a.written) c.entry_at.ensures
          c.lower-x.ensures,
    )

pub loop-r-preserved : goal.loop-r-preserved
loop-r-preserved c =
    let a = c.args in (
      omega arith,
      low-more a.nodes.now a.lows.now a.rows.now a.row (bits a.written) _
          c.loop-r.invariant.1 c.has.ensures c.entry_at-in-loop-r.ensures
          c.low_by-x.ensures,
    )

pub returns : goal.returns
returns c =
    let e : c.loop-r.r ≡ 32 = omega arith in
    rw e at c.loop-r.invariant.1
