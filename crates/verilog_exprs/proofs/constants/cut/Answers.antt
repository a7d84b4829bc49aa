-- `verilog_exprs::constants::cut` meets its contract. Assumes nothing.
use mathlib.Core.Path.{sym}
use native.Mathlib.Omega.{arith}
use lib.Pow.{pow_pos}
use Rattle.values.proofs.Values.{shifted}
use Rattle.verilog_exprs.proofs.Values.{cut-narrow, cut-whole}
use Rattle.verilog_exprs.proofs.constants.cut.Goals as goal

pub nonzero_rem-result : goal.nonzero_rem-result
nonzero_rem-result c =
    let w = c.args.width in rw (shifted w c.if-width-ge32.false) (pow_pos w)

pub returns-then-width-ge32 : goal.returns-then-width-ge32
returns-then-width-ge32 c =
    sym (cut-whole c.args.width c.args.v c.if-width-ge32.true c.ranges.v.fits)

pub returns-else-width-ge32 : goal.returns-else-width-ge32
returns-else-width-ge32 c =
    rw (shifted c.args.width c.if-width-ge32.false)
    (sym (cut-narrow c.args.width c.args.v (omega arith)))
