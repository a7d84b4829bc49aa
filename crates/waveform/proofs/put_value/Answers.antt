-- `waveform::put_value` meets its contract. Assumes nothing.
use Rattle.writing.proofs.Buffer.{both}
use Rattle.waveform.proofs.Waveform.{value-bit, value-bits}
use borrow.Author.Rules.{rules}
use Rattle.waveform.proofs.put_value.Goals as goal

pub returns-then-width-eq1 : goal.returns-then-width-eq1
returns-then-width-eq1 c =
    let a = c.args in
    rw (value-bit a.width a.v a.a c.if-width-eq1.true)
    (both _ _ _ _ _ c.put_figures-q.ensures c.put_code.ensures)

pub returns : goal.returns
returns c =
    let a = c.args in
    rw (value-bits a.width a.v a.a c.if-width-eq1.false)
    (both _ _ _ _ _ c.put_byte-p.ensures
    (both _ _ _ _ _ c.put_figures-q-2.ensures
    (both _ _ _ _ _ c.put_byte-s.ensures c.put_code-2.ensures)))
