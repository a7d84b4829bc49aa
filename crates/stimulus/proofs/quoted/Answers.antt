-- `stimulus::quoted` meets its contract, row by row. Assumes nothing.
use borrow.Author.Tests.{not-true, not-false}
use mathlib.Core.Path.{◌∙◌}
use Rattle.stimulus.proofs.Lines.{quoted-bad, quoted-wide, quoted-is}
use Rattle.stimulus.proofs.quoted.Goals as goal

pub returns-then-not-size : goal.returns-then-not-size
returns-then-not-size c =
    c.faulty.ensures ∙ quoted-bad _ _ _ _ (not-true _ c.if-not-size.true)

pub returns-then-n-ge33 : goal.returns-then-n-ge33
returns-then-n-ge33 c =
    c.faulty-then-n-ge33.ensures ∙ quoted-wide _ _ _ _ (not-false _ c.if-not-size.false) c.if-n-ge33.true

pub returns : goal.returns
returns c =
    c.sized.ensures ∙ quoted-is _ _ _ _ (not-false _ c.if-not-size.false) c.if-n-ge33.false
