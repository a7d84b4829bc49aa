-- `plan::slot_at` meets its contract, by its test.
use native.Mathlib.Omega.{arith}
use borrow.Author.Tests.{lt-ltb, le-ltb}
use Rattle.plan.specs.Sections.{slot_of}
use Rattle.plan.proofs.slot_at.Goals as goal

pub returns-then-n-lt4176 : goal.returns-then-n-lt4176
unfolding slot_of
returns-then-n-lt4176 c =
    record { value = rw (lt-ltb _ _ c.if-n-lt4176.true); upper_bound = c.if-n-lt4176.true }

pub returns-else-n-lt4176 : goal.returns-else-n-lt4176
unfolding slot_of
returns-else-n-lt4176 c =
    record { value = rw (le-ltb _ _ c.if-n-lt4176.false); upper_bound = omega arith }
