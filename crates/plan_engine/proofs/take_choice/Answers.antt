-- `plan_engine::take_choice` meets its contract. Assumes nothing.
use native.Mathlib.Omega.{arith}
use Rattle.plan.specs.Plan.{plan_of}
use Rattle.plan_engine.proofs.Taking.{choice-past}
use Rattle.plan_engine.proofs.Running.{turn_one}
use borrow.Author.Rules.{rules}
use Rattle.plan_engine.proofs.take_choice.Goals as goal

pub returns-then-c-ge-ITEMS : goal.returns-then-c-ge-ITEMS
returns-then-c-ge-ITEMS c =
    choice-past (plan_of c.args.plan.now) _ _ _ (omega arith) (omega arith) c.if-c-ge-ITEMS.true

pub returns : goal.returns
returns c =
    turn_one _ _ _ _ _ _ _ c.if-c-ge-ITEMS.false c.take_turns-t.ensures
