-- `plan_engine::take_thread` meets its contract. Assumes nothing.
use mathlib.Core.Path.{sym, ◌∙◌}
use borrow.Author.Tests.{lt-ltb, le-ltb}
use Rattle.plan_engine.specs.Taking.{take_instruction, take_thread}
use Rattle.plan_engine.proofs.Taking.{unless-full, unless-free}
use borrow.Author.Rules.{rules}
use Rattle.plan_engine.proofs.take_thread.Goals as goal

pub returns-then-i-ge8 : goal.returns-then-i-ge8
unfolding take_thread
returns-then-i-ge8 c =
    rw (le-ltb _ _ c.if-i-ge8.true)

pub returns-in_default : goal.returns-in_default
unfolding take_thread take_instruction
returns-in_default c =
    rw (lt-ltb _ _ c.if-i-ge8.false, sym c.fetch.ensures ∙ c.in_default.is)

pub returns-then-room-eq0 : goal.returns-then-room-eq0
unfolding take_thread take_instruction
returns-then-room-eq0 c =
    rw (lt-ltb _ _ c.if-i-ge8.false, sym c.fetch.ensures ∙ c.in-Act.is)
    (unless-full _ _ _ c.if-room-eq0.true)

pub returns : goal.returns
unfolding take_thread take_instruction
returns c =
    rw (lt-ltb _ _ c.if-i-ge8.false, sym c.fetch.ensures ∙ c.in-Act.is, c.act-marks.ensures)
    (unless-free _ _ _ c.if-room-eq0.false)
