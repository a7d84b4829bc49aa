-- `drawing::is_labelled` meets its contract. Assumes nothing.
use mathlib.Core.Path.{refl}
use borrow.Author.Tests.{le-ltb, lt-ltb}
use Rattle.drawing.specs.Drawing.{is_labelled}
use Rattle.drawing.proofs.is_labelled.Goals as goal

pub returns-then-last_cycle-lt10000 : goal.returns-then-last_cycle-lt10000
unfolding is_labelled
returns-then-last_cycle-lt10000 c =
    rw (← c.last_cycle.ensures, lt-ltb _ _ c.if-last_cycle-lt10000.true) refl

pub returns : goal.returns
unfolding is_labelled
returns c =
    rw (← c.last_cycle.ensures, le-ltb _ _ c.if-last_cycle-lt10000.false) refl
