-- `verilog_tokens::numbers::number_in` meets its contract. The loop's invariant: with the digits that are left, `n` comes to the number
-- that the whole spells. Assumes nothing.
use Rattle.verilog_tokens.proofs.Digits.{cut-32, cut-start, count_next, count-done}
use Rattle.verilog_tokens.proofs.numbers.number_in.Goals as goal

pub loop-b-init : goal.loop-b-init
loop-b-init c =
    cut-start c.args.radix _

pub loop-b-preserved : goal.loop-b-preserved
loop-b-preserved c =
    let a = c.args in
    let l = c.loop-b in
    let t = c.loop-b-test in
    let r-shifted = c.shifted-n in
    count_next (cut-32 a.radix) a.digits.now l.b-index l.n l.invariant t.true _ r-shifted.ensures

pub returns : goal.returns
returns c =
    let a = c.args in
    let l = c.loop-b in
    let t = c.loop-b-test in
    count-done (cut-32 a.radix) a.digits.now l.b-index l.n l.invariant t.false
