-- `drawing::put_escaped` meets its contract. The loop's invariant: what is still to be put gives the whole. Assumes nothing.
use mathlib.Core.Path.{◌∙◌, refl, sym}
use Rattle.drawing.specs.Drawing.{escaped, escaped_byte}
use Rattle.tabulate.proofs.Tabulate.{columns-done, columns-next}
use Rattle.writing.specs.Buffer.{filled}
use Rattle.drawing.proofs.put_escaped.Goals as goal

pub loop-b-init : goal.loop-b-init
loop-b-init c =
    refl

pub loop-b-preserved : goal.loop-b-preserved
loop-b-preserved c =
    let l = c.loop-b in
    columns-next escaped_byte (filled l.text l.p) _ c.args.word.now l.b-index c.loop-b-test.true
    c.put_escaped_byte-p.ensures ∙ l.invariant

pub returns : goal.returns
unfolding escaped
returns c =
    let l = c.loop-b in
    sym (columns-done escaped_byte (filled l.text l.p) c.args.word.now l.b-index c.loop-b-test.false) ∙ l.invariant
