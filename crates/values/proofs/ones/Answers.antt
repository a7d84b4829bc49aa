-- `values::ones` meets its contract. Assumes nothing.
use Rattle.std.proofs.Common.{pow_pos, le-ltb, lt-ltb}
use Rattle.values.specs.Values.{ones}
use Rattle.values.proofs.Values.{shifted}
use Rattle.values.proofs.ones.Goals as goal

pub overflow_sub-result : goal.overflow_sub-result
overflow_sub-result c =
    let w = c.args.width in rw (shifted w c.if-width-lt32.true) (pow_pos w)

pub returns-then-width-lt32 : goal.returns-then-width-lt32
unfolding ones
returns-then-width-lt32 c =
    let w = c.args.width in rw (shifted w c.if-width-lt32.true, lt-ltb w 32 c.if-width-lt32.true)

pub returns-else-width-lt32 : goal.returns-else-width-lt32
unfolding ones
returns-else-width-lt32 c =
    rw (le-ltb _ _ c.if-width-lt32.false)
