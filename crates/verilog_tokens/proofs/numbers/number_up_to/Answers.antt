-- `verilog_tokens::numbers::number_up_to` meets its contract. The loop's invariant: with the digits that are left, `n` comes to the
-- number that the whole spells. Assumes nothing.
use Rattle.verilog_tokens.proofs.Digits.{up-to, up_start, count_next, count-done}
use Rattle.verilog_tokens.proofs.numbers.number_up_to.Goals as goal

pub loop-b-init : goal.loop-b-init
loop-b-init c =
    up_start _

pub loop-b-preserved : goal.loop-b-preserved
loop-b-preserved c =
    let a = c.args in
    let l = c.loop-b in
    let t = c.loop-b-test in
    let r-grown = c.grown-n in
    count_next up-to a.digits.now l.b-index l.n l.invariant t.true _ r-grown.ensures

pub returns : goal.returns
returns c =
    let a = c.args in
    let l = c.loop-b in
    let t = c.loop-b-test in
    count-done up-to a.digits.now l.b-index l.n l.invariant t.false
