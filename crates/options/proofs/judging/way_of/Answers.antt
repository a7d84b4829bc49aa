-- `options::judging::way_of` meets its contract. Assumes nothing.
use mathlib.Core.Path.{sym, ◌∙◌}
use Rattle.options.specs.Requests.{way_of}
use Rattle.options.proofs.judging.way_of.Goals as goal

pub returns-then-is_given : goal.returns-then-is_given
unfolding way_of
returns-then-is_given c =
    rw (sym c.is_given.ensures ∙ c.if-is_given.true)

pub returns-then-is_given-2 : goal.returns-then-is_given-2
unfolding way_of
returns-then-is_given-2 c =
    rw (
      sym c.is_given.ensures ∙ c.if-is_given.false,
      sym c.is_given-2.ensures ∙ c.if-is_given-2.true,
      c.number_at.ensures,
    )

pub returns-then-is_given-3 : goal.returns-then-is_given-3
unfolding way_of
returns-then-is_given-3 c =
    rw (
      sym c.is_given.ensures ∙ c.if-is_given.false,
      sym c.is_given-2.ensures ∙ c.if-is_given-2.false,
      sym c.is_given-3.ensures ∙ c.if-is_given-3.true,
    )

pub returns : goal.returns
unfolding way_of
returns c =
    rw (
      sym c.is_given.ensures ∙ c.if-is_given.false,
      sym c.is_given-2.ensures ∙ c.if-is_given-2.false,
      sym c.is_given-3.ensures ∙ c.if-is_given-3.false,
    )
