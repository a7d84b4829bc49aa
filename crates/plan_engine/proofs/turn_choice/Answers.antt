-- `plan_engine::turn_choice` meets its contract. Assumes nothing.
use mathlib.Core.Path.{◌∙◌}
use native.Mathlib.Nat.{le_refl}
use Rattle.plan_engine.proofs.Running.{choice-given, choice-plain}
use Rattle.plan_engine.proofs.turn_choice.Goals as goal

pub returns-in-Some : goal.returns-in-Some
returns-in-Some c =
    let e = c.in-Some.is in
    let h = rw e at c.requires in
    λ cs ns ps. rw e (choice-given _ _ _ h)

pub returns-in-None : goal.returns-in-None
returns-in-None c =
    λ cs ns ps. rw c.in-None.is (c.plain_choice.ensures cs ns ps ∙ choice-plain _ _ 65536 (le_refl 65536))
