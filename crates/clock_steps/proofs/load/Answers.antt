-- `clock_steps::load` meets its contract. The loop: the registers so far copied. Assumes nothing.
use mathlib.Core.Path.{◌≡◌}
use native.Mathlib.Omega.{arith}
use Rattle.clock_steps.proofs.Turns.{load-none, load-more}
use Rattle.clock_steps.proofs.load.Goals as goal

pub loop-r-init : goal.loop-r-init
loop-r-init c =
    (omega arith, load-none c.args.cells.now c.args.first _)

pub loop-r-preserved : goal.loop-r-preserved
loop-r-preserved c =
    let a = c.args in
    (omega arith, load-more a.cells.now a.first _ _ c.loop-r.invariant.1 c.slot.ensures.value)

pub returns : goal.returns
returns c =
    let e : c.loop-r.r ≡ c.args.count = omega arith in
    rw e at c.loop-r.invariant.1
