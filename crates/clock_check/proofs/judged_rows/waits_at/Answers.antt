-- `clock_check::judged_rows::waits_at` meets its contract, test by test. Assumes nothing.
use mathlib.Core.Path.{ap, ◌∙◌}
use native.Mathlib.Omega.{arith}
use borrow.Author.Tests.{lt-ltb, le-ltb}
use Rattle.clock_steps.specs.Taking.{at_most}
use Rattle.clock_check.specs.Judging.{wait_of}
use Rattle.clock_check.proofs.judged_rows.waits_at.Goals as goal

pub returns-then-n-p : goal.returns-then-n-p
unfolding wait_of
returns-then-n-p c =
    let n = c.at_most-n.ensures.value ∙ ap (at_most 256) c.size.ensures in
    rw (← n, le-ltb _ _ c.if-n-p.true)

pub overflow_cast-p-2 : goal.overflow_cast-p-2
overflow_cast-p-2 c =
    omega (arith, c.at_most-n.ensures.upper_bound)

pub returns : goal.returns
unfolding wait_of
returns c =
    let n = c.at_most-n.ensures.value ∙ ap (at_most 256) c.size.ensures in
    rw (← n, lt-ltb _ _ c.if-n-p.false) c.waits.ensures
