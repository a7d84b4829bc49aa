-- `clock_check::judged_nodes::constant_fits` meets its contract, test by test. Assumes nothing.
use mathlib.Core.Path.{sym, ◌∙◌}
use native.Mathlib.Omega.{arith}
use borrow.Author.Tests.{leb-true}
use lib.Dec.{leb}
use Rattle.events.proofs.Cycle.{and_right}
use Rattle.nodes.specs.Cells.{is_width}
use Rattle.clock_check.proofs.judged_nodes.constant_fits.Goals as goal

pub overflow_cast-w : goal.overflow_cast-w
unfolding is_width
overflow_cast-w c =
    let h = sym c.is_width.ensures ∙ c.if-is_width.true in
    omega (arith, leb-true c.args.w 32 (and_right (leb 1 c.args.w) (leb c.args.w 32) h))

pub returns-then-is_width : goal.returns-then-is_width
returns-then-is_width c =
    rw (← c.is_width.ensures, c.if-is_width.true) c.below.ensures

pub returns-else-is_width : goal.returns-else-is_width
returns-else-is_width c =
    rw (← c.is_width.ensures, c.if-is_width.false)
