-- `clock_steps::store` meets its contract. The loop: the registers so far put back. Assumes nothing.
use mathlib.Core.Path.{◌≡◌}
use native.Mathlib.Omega.{arith}
use Rattle.clock_steps.proofs.Turns.{store-none, store-more}
use Rattle.clock_steps.proofs.store.Goals as goal

pub loop-r-init : goal.loop-r-init
loop-r-init c =
    (omega arith, store-none c.args.news.now c.args.first _)

pub loop-r-preserved : goal.loop-r-preserved
loop-r-preserved c =
    let a = c.args in
    (omega arith, store-more a.news.now a.first _ _ c.loop-r.invariant.1 c.put_cell.ensures)

pub returns : goal.returns
returns c =
    let e : c.loop-r.r ≡ c.args.count = omega arith in
    rw e at c.loop-r.invariant.1
