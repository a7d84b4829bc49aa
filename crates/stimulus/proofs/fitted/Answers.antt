-- `stimulus::fitted` meets its contract, row by row. Assumes nothing.
use borrow.Author.Tests.{not-true, not-false}
use mathlib.Core.Path.{ap, ◌∙◌}
use Rattle.stimulus.specs.Lines.{admitted}
use Rattle.stimulus.proofs.Lines.{fitted-bad, fitted-long, fitted-is}
use Rattle.stimulus.proofs.fitted.Goals as goal

pub returns-then-not-a : goal.returns-then-not-a
returns-then-not-a c =
    c.faulty.ensures ∙ fitted-bad _ _ (not-true _ c.if-not-a.true)

pub returns-then-n-ge4294967296 : goal.returns-then-n-ge4294967296
returns-then-n-ge4294967296 c =
    c.faulty-then-n-ge4294967296.ensures ∙ fitted-long _ _ (not-false _ c.if-not-a.false) c.if-n-ge4294967296.true

pub returns : goal.returns
returns c =
    c.admitted.ensures ∙ ap (admitted _) c.known.ensures ∙ fitted-is _ _ (not-false _ c.if-not-a.false) c.if-n-ge4294967296.false
