-- `clock_steps::fill_thread` meets its contract. The loop: the rows so far filled. Assumes nothing.
use mathlib.Core.Path.{◌≡◌}
use native.Mathlib.Omega.{arith}
use Rattle.clock_steps.proofs.Numbers.{fill_none, fill_more}
use Rattle.clock_steps.proofs.fill_thread.Goals as goal

pub loop-k-init : goal.loop-k-init
loop-k-init c =
    let a = c.args in
    (omega arith, omega arith, fill_none a.nodes.now a.lows.now a.rows.now a.written a.first _)

pub loop-k-preserved : goal.loop-k-preserved
loop-k-preserved c =
    let a = c.args in
    let i = c.loop-k.invariant in (
      omega arith,
      omega arith,
      fill_more a.nodes.now a.lows.now a.rows.now a.written a.first _ _ i.0 i.2
          c.fill_row.ensures,
    )

pub returns : goal.returns
returns c =
    let e : c.loop-k.k ≡ c.args.end = omega arith in
    rw e at c.loop-k.invariant.2
