-- `plan_engine::root_of` meets its contract. Assumes nothing.
use native.Mathlib.Omega.{arith}
use borrow.Author.Tests.{lt-ltb, le-ltb}
use Rattle.plan.specs.Sections.{slot_of}
use Rattle.plan_engine.specs.Live.{root_of}
use Rattle.plan_engine.proofs.root_of.Goals as goal

pub returns-then-e-lt4176 : goal.returns-then-e-lt4176
unfolding root_of slot_of
returns-then-e-lt4176 c =
    record { value = rw (lt-ltb _ _ c.if-e-lt4176.true); upper_bound = c.if-e-lt4176.true }

pub returns-else-e-lt4176 : goal.returns-else-e-lt4176
unfolding root_of slot_of
returns-else-e-lt4176 c =
    record { value = rw (le-ltb _ _ c.if-e-lt4176.false); upper_bound = omega arith }
