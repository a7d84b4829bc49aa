-- `drawing::largest_name` meets its contract. The loop's invariant: the largest so far and those to come give the whole. Assumes nothing.
use mathlib.Core.Path.{◌∙◌, ap, refl, sym}
use Rattle.drawing.proofs.Laws.{largest-done, largest-next}
use Rattle.drawing.specs.Drawing.{name_size}
use Rattle.tabulate.specs.Tabulate.{longer}
use Rattle.drawing.proofs.largest_name.Goals as goal

pub loop-v-init : goal.loop-v-init
loop-v-init c =
    refl

pub loop-v-preserved : goal.loop-v-preserved
loop-v-preserved c =
    let l = c.loop-v in
    let a = c.args in
    let size = name_size a.widths.now a.names.now in
    let e = c.longer-m.ensures ∙ ap (λ x. longer l.m x) c.name_size.ensures in
    largest-next size l.m _ a.vs.now l.v-index c.loop-v-test.true e ∙ l.invariant

pub returns : goal.returns
returns c =
    let l = c.loop-v in
    let a = c.args in
    sym (largest-done (name_size a.widths.now a.names.now) l.m a.vs.now l.v-index c.loop-v-test.false) ∙ l.invariant
