-- `plan::slot` meets its contract, by its test.
use native.Mathlib.Omega.{arith}
use borrow.Author.Tests.{lt-ltb, le-ltb}
use Rattle.plan.specs.Sections.{slot_of}
use Rattle.plan.proofs.slot.Goals as goal

pub returns-then-w-lt4176 : goal.returns-then-w-lt4176
unfolding slot_of
returns-then-w-lt4176 c =
    record { value = rw (lt-ltb _ _ c.if-w-lt4176.true); upper_bound = c.if-w-lt4176.true }

pub returns-else-w-lt4176 : goal.returns-else-w-lt4176
unfolding slot_of
returns-else-w-lt4176 c =
    record { value = rw (le-ltb _ _ c.if-w-lt4176.false); upper_bound = omega arith }
