-- `waveform::put_kind` meets its contract. Assumes nothing.
use Rattle.writing.specs.Ascii.{ascii}
use Rattle.waveform.proofs.Waveform.{kind-input, kind-register, kind-wire}
use borrow.Author.Rules.{rules}
use Rattle.waveform.proofs.put_kind.Goals as goal

pub returns-then-v-inputs : goal.returns-then-v-inputs
unfolding ascii
returns-then-v-inputs c =
    let a = c.args in
    rw (kind-input a.inputs a.registers a.v c.if-v-inputs.true) c.put_word.ensures

pub returns-then-v-inputs-2 : goal.returns-then-v-inputs-2
unfolding ascii
returns-then-v-inputs-2 c =
    let a = c.args in
    rw (kind-register a.inputs a.registers a.v c.if-v-inputs.false c.if-v-inputs-2.true) c.put_word-then-v-inputs-2.ensures

pub returns : goal.returns
unfolding ascii
returns c =
    let a = c.args in
    rw (kind-wire a.inputs a.registers a.v c.if-v-inputs.false c.if-v-inputs-2.false) c.put_word-2.ensures
