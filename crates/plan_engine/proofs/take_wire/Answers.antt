-- `plan_engine::take_wire` meets its contract. Assumes nothing.
use mathlib.Core.Path.{sym, ap, ◌∙◌}
use borrow.Author.Tests.{not-true, not-false}
use Rattle.masks.specs.Masks.{bits}
use Rattle.plan_engine.specs.Taking.{take_wire}
use Rattle.plan_engine.proofs.Acting.{mark-below}
use Rattle.plan_engine.proofs.Taking.{unless-full, unless-free}
use borrow.Author.Rules.{rules}
use Rattle.plan_engine.proofs.take_wire.Goals as goal

pub returns-then-not-has : goal.returns-then-not-has
unfolding take_wire
returns-then-not-has c =
    rw (sym c.has.ensures ∙ c.if-not-has.true)

pub returns-then-room-eq0 : goal.returns-then-room-eq0
unfolding take_wire
returns-then-room-eq0 c =
    rw (sym c.has.ensures ∙ c.if-not-has.false) (unless-full _ _ _ c.if-room-eq0.true)

pub settle-marks-requires : goal.settle-marks-requires
settle-marks-requires c =
    mark-below _ _ (sym c.has.ensures ∙ c.if-not-has.false)

pub returns : goal.returns
unfolding take_wire
returns c =
    rw (sym c.has.ensures ∙ c.if-not-has.false, ← c.settle-marks.ensures.ready_after, ← ap bits c.settle-marks.ensures.held_value)
    (unless-free _ _ _ c.if-room-eq0.false)
