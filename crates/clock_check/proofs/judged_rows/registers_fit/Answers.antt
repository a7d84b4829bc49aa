-- `clock_check::judged_rows::registers_fit` meets its contract. The loop: the entries so far are in order. Assumes nothing.
use mathlib.Core.Path.{sym, ◌∙◌}
use native.Mathlib.Omega.{arith}
use Rattle.plan.specs.Plan.{plan_of}
use Rattle.plan_fitting.proofs.Loops.{all_none, All-more, all_done, all-fails}
use Rattle.clock_check.proofs.judged_rows.registers_fit.Invariants.{test}
use Rattle.clock_check.proofs.judged_rows.registers_fit.Goals as goal

pub loop-r-init : goal.loop-r-init
loop-r-init c =
    let a = c.args in
    (c.registers-n.ensures, omega arith, all_none (test a.plan.now a.sizes.now a.rows.now a.written a.row))

pub entry_fits-requires : goal.entry_fits-requires
entry_fits-requires c =
    omega arith

pub returns-then-not-entry_fits : goal.returns-then-not-entry_fits
returns-then-not-entry_fits c =
    let a = c.args in
    all-fails (test a.plan.now a.sizes.now a.rows.now a.written a.row) c.loop-r.r (plan_of a.plan.now).registers
    (omega arith) (sym c.entry_fits.ensures ∙ c.if-not-entry_fits.true)

pub loop-r-preserved : goal.loop-r-preserved
loop-r-preserved c =
    let a = c.args in (
      c.loop-r.invariant.0,
      omega arith,
      All-more (test a.plan.now a.sizes.now a.rows.now a.written a.row) c.loop-r.r c.loop-r.invariant.2
          (sym c.entry_fits.ensures ∙ c.if-not-entry_fits.false),
    )

pub returns : goal.returns
returns c =
    let a = c.args in
    all_done (test a.plan.now a.sizes.now a.rows.now a.written a.row) c.loop-r.r (plan_of a.plan.now).registers
    (omega arith) (omega arith) c.loop-r.invariant.2
