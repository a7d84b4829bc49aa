-- `options::fresh` meets its contract, row by row. Assumes nothing.
use borrow.Author.Tests.{lt-ltb, le-ltb}
use mathlib.Core.Path.{sym, ◌∙◌}
use Rattle.options.specs.Options.{fresh}
use Rattle.options.proofs.fresh.Goals as goal

pub returns-then-slot-gt19 : goal.returns-then-slot-gt19
unfolding fresh
returns-then-slot-gt19 c =
    rw (← c.option_of-slot.ensures, lt-ltb _ _ c.if-slot-gt19.true) c.noted.ensures

pub returns-then-slot-gt0 : goal.returns-then-slot-gt0
unfolding fresh
returns-then-slot-gt0 c =
    rw (← c.option_of-slot.ensures, le-ltb _ _ c.if-slot-gt19.false, lt-ltb _ _ c.if-slot-gt0.true) c.wanting.ensures

pub returns-then-is_dashed : goal.returns-then-is_dashed
unfolding fresh
returns-then-is_dashed c =
    rw (
      ← c.option_of-slot.ensures,
      le-ltb _ _ c.if-slot-gt19.false,
      le-ltb _ _ c.if-slot-gt0.false,
      sym c.is_dashed.ensures ∙ c.if-is_dashed.true,
    ) c.misplaced.ensures

pub returns : goal.returns
unfolding fresh
returns c =
    rw (
      ← c.option_of-slot.ensures,
      le-ltb _ _ c.if-slot-gt19.false,
      le-ltb _ _ c.if-slot-gt0.false,
      sym c.is_dashed.ensures ∙ c.if-is_dashed.false,
    ) c.placed.ensures
