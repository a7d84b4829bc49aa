-- `options::judging::judge` meets its contract. Assumes nothing.
use mathlib.Core.Path.{sym, ◌∙◌}
use Rattle.options.specs.Requests.{request}
use Rattle.options.proofs.judging.judge.Goals as goal

pub returns-then-is_given : goal.returns-then-is_given
unfolding request
returns-then-is_given c =
    rw (sym c.is_given.ensures ∙ c.if-is_given.true)

pub returns-then-is_given-2 : goal.returns-then-is_given-2
unfolding request
returns-then-is_given-2 c =
    rw (sym c.is_given.ensures ∙ c.if-is_given.false, sym c.is_given-2.ensures ∙ c.if-is_given-2.true)

pub returns : goal.returns
unfolding request
returns c =
    rw (
      sym c.is_given.ensures ∙ c.if-is_given.false,
      sym c.is_given-2.ensures ∙ c.if-is_given-2.false,
    )
    c.judged.ensures
