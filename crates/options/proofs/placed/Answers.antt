-- `options::placed` meets its contract, row by row. Assumes nothing.
use borrow.Author.Tests.{eq-eqb, ne_eqb}
use mathlib.Core.Path.{ap, ◌∙◌}
use Rattle.options.specs.Options.{named, placed}
use Rattle.options.proofs.placed.Goals as goal

pub returns-then-o-eq0 : goal.returns-then-o-eq0
unfolding placed
returns-then-o-eq0 c =
    rw (eq-eqb _ _ c.if-o-eq0.true)
    (c.named.ensures ∙ ap (named c.args.o) c.command_of.ensures)

pub returns-then-at-eq0 : goal.returns-then-at-eq0
unfolding placed
returns-then-at-eq0 c =
    rw (ne_eqb _ _ c.if-o-eq0.false, eq-eqb _ _ c.if-at-eq0.true) c.noted.ensures

pub returns-then-at-eq0-2 : goal.returns-then-at-eq0-2
unfolding placed
returns-then-at-eq0-2 c =
    rw (ne_eqb _ _ c.if-o-eq0.false, ne_eqb _ _ c.if-at-eq0.false, eq-eqb _ _ c.if-at-eq0-2.true)
    c.noted-then-at-eq0-2.ensures

pub returns : goal.returns
unfolding placed
returns c =
    rw (ne_eqb _ _ c.if-o-eq0.false, ne_eqb _ _ c.if-at-eq0.false, ne_eqb _ _ c.if-at-eq0-2.false)
    c.misplaced.ensures
