-- `clock_check::judged_rows::row_fits` meets its contract, test by test. Assumes nothing.
use mathlib.Core.Path.{sym, ◌∙◌}
use Rattle.plan.specs.Plan.{plan_of}
use Rattle.clock_check.proofs.Tests.{row-off, row-past, row_on}
use Rattle.clock_check.proofs.judged_rows.row_fits.Goals as goal

pub returns-then-not-registers_fit : goal.returns-then-not-registers_fit
returns-then-not-registers_fit c =
    let a = c.args in
    row-off (plan_of a.plan.now) a.sizes.now a.rows.now a.written a.marks.now a.row
    (sym c.registers_fit.ensures ∙ c.if-not-registers_fit.true)

pub returns-then-n-ge4096 : goal.returns-then-n-ge4096
returns-then-n-ge4096 c =
    let a = c.args in
    row-past (plan_of a.plan.now) a.sizes.now a.rows.now a.written a.marks.now a.row
    c.if-n-ge4096.true (sym c.registers_fit.ensures ∙ c.if-not-registers_fit.false)
    c.entry_at-n.ensures

pub returns : goal.returns
returns c =
    let a = c.args in
    row_on (plan_of a.plan.now) a.sizes.now a.rows.now a.written a.marks.now a.row
    c.if-n-ge4096.false (sym c.registers_fit.ensures ∙ c.if-not-registers_fit.false)
    c.entry_at-n.ensures
