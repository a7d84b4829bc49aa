-- `clock_steps::slot` meets its contract. Assumes nothing.
use borrow.Author.Tests.{lt-ltb, le-ltb}
use native.Mathlib.Omega.{arith}
use Rattle.plan.specs.Sections.{slot_of}
use Rattle.clock_steps.proofs.slot.Goals as goal

pub returns-then-n-lt4176 : goal.returns-then-n-lt4176
unfolding slot_of
returns-then-n-lt4176 c =
    record { value = rw (lt-ltb _ 4176 c.if-n-lt4176.true); upper_bound = c.if-n-lt4176.true }

pub returns-else-n-lt4176 : goal.returns-else-n-lt4176
unfolding slot_of
returns-else-n-lt4176 c =
    record { value = rw (le-ltb _ 4176 c.if-n-lt4176.false); upper_bound = omega arith }
