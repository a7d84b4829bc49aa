-- `clock_steps::take_registers` meets its contract. The loop: the registers so far taken. Assumes nothing.
use mathlib.Core.Path.{◌≡◌}
use native.Mathlib.Omega.{arith}
use Rattle.clock_steps.proofs.Turns.{registers-none, registers-more}
use Rattle.clock_steps.proofs.take_registers.Goals as goal

pub loop-r-init : goal.loop-r-init
loop-r-init c =
    (omega arith, registers-none c.args.table.now c.args.row c.args.cells.now _)

pub loop-r-preserved : goal.loop-r-preserved
loop-r-preserved c =
    let a = c.args in (
      omega arith,
      registers-more a.table.now a.row a.cells.now _ _ c.loop-r.invariant.1
          c.take_register.ensures,
    )

pub returns : goal.returns
returns c =
    let e : c.loop-r.r ≡ c.args.count = omega arith in
    rw e at c.loop-r.invariant.1
