-- `verilog_bytes::turn` meets its contract: three parts are reversed. Assumes nothing.
use mathlib.Core.Path.{sym}
use Rattle.verilog_bytes.proofs.Turning.{turned-back, turned-ends, turned-past, turned-parts}
use Rattle.verilog_bytes.proofs.turn.Goals as goal

pub returns-then-mid-from : goal.returns-then-mid-from
returns-then-mid-from c =
    sym (turned-back _ _ _ _ c.if-mid-from.true)

pub returns-then-end-mid : goal.returns-then-end-mid
returns-then-end-mid c =
    sym (turned-ends _ _ _ _ c.if-end-mid.true)

pub returns-then-end-gt65536 : goal.returns-then-end-gt65536
returns-then-end-gt65536 c =
    sym (turned-past _ _ _ _ c.if-end-gt65536.true)

pub returns : goal.returns
returns c =
    let a = c.args in
    rw (c.reverse-3.ensures.after, c.reverse-2.ensures.after, c.reverse.ensures.after)
    (turned-parts a.out.now a.from a.mid a.end c.told-out c.if-mid-from.false c.if-end-mid.false c.if-end-gt65536.false)
