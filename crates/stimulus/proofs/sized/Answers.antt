-- `stimulus::sized` meets its contract, row by row. Assumes nothing.
use borrow.Author.Tests.{not-true, not-false}
use mathlib.Core.Path.{ap, ◌∙◌}
use Rattle.stimulus.specs.Lines.{admitted}
use Rattle.stimulus.proofs.Lines.{sized-bad, sized-long, sized-is}
use Rattle.stimulus.proofs.sized.Goals as goal

pub returns-then-not-a : goal.returns-then-not-a
returns-then-not-a c =
    c.faulty.ensures ∙ sized-bad _ _ _ _ (not-true _ c.if-not-a.true)

pub returns-then-size-count : goal.returns-then-size-count
returns-then-size-count c =
    c.faulty-then-size-count.ensures ∙ sized-long _ _ _ _ (not-false _ c.if-not-a.false) c.if-size-count.true

pub returns : goal.returns
returns c =
    c.admitted.ensures ∙ ap (admitted _) c.cut.ensures ∙ sized-is _ _ _ _ (not-false _ c.if-not-a.false) c.if-size-count.false
