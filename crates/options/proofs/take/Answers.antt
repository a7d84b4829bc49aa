-- `options::take` meets its contract. Assumes nothing.
use borrow.Author.Tests.{eq-eqb, ne_eqb}
use mathlib.Core.Path.{ap, ◌∙◌}
use Rattle.options.specs.declared.Options.{Options}
use Rattle.options.specs.Options.{filled, fresh, taken}
use Rattle.options.proofs.take.Goals as goal

pub returns-then-o-eq0 : goal.returns-then-o-eq0
unfolding taken
returns-then-o-eq0 c =
    let a = c.args in
    rw (eq-eqb _ _ c.if-o-eq0.true)
    (c.fresh.ensures ∙ ap (λ (o : Options). fresh o a.word.now) c.advanced-n.ensures)

pub returns : goal.returns
unfolding taken
returns c =
    let a = c.args in
    rw (ne_eqb _ _ c.if-o-eq0.false)
    (c.filled.ensures ∙ ap (λ (o : Options). filled o a.o.wants a.word.now) c.advanced-n.ensures)
