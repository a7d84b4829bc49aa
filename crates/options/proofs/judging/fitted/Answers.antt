-- `options::judging::fitted` meets its contract. Assumes nothing.
use borrow.Author.Tests.{eq-eqb, ne_eqb}
use mathlib.Core.Path.{sym, ◌∙◌}
use Rattle.stimulus.proofs.Searching.{at-some, at-none}
use Rattle.options.specs.Requests.{fitted}
use Rattle.options.proofs.judging.fitted.Goals as goal

pub returns-in-Some : goal.returns-in-Some
unfolding fitted
returns-in-Some c =
    let s = at-some _ _ (sym c.in-Some.is ∙ c.misfit.ensures) in
    rw (← s.0, ne_eqb _ _ s.1)

pub returns-in-None : goal.returns-in-None
unfolding fitted
returns-in-None c =
    rw (eq-eqb _ _ (at-none _ (sym c.in-None.is ∙ c.misfit.ensures))) c.paired.ensures
