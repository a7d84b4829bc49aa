-- `clock_run::take_values` meets its contract. The loop: the values so far taken. Assumes nothing.
use mathlib.Core.Path.{◌≡◌}
use native.Mathlib.Omega.{arith}
use Rattle.clock_run.proofs.Turns.{numbers-none, numbers_more, marks-none, marks-more}
use Rattle.clock_run.proofs.take_values.Goals as goal

pub loop-r-init : goal.loop-r-init
loop-r-init c =
    (omega arith, numbers-none c.args.cells.now c.args.first _, marks-none c.args.cells.now c.args.first _)

pub loop-r-preserved : goal.loop-r-preserved
loop-r-preserved c =
    let a = c.args in (
      omega arith,
      numbers_more a.cells.now a.first _ _ c.loop-r.invariant.1 c.load.ensures c.number_of.ensures,
      marks-more a.cells.now a.first _ _ c.loop-r.invariant.2 c.load-in-loop-r.ensures c.marks_of.ensures,
    )

pub returns : goal.returns
returns c =
    let e : c.loop-r.r ≡ c.args.n = omega arith in
    (record { value_after = rw e at c.loop-r.invariant.1; unknown_after = rw e at c.loop-r.invariant.2 })
