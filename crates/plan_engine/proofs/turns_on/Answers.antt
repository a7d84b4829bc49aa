-- `plan_engine::turns_on` meets its contract. Assumes nothing.
use mathlib.Core.Path.{◌∙◌}
use native.Mathlib.Nat.{le_refl}
use Rattle.plan_engine.proofs.Running.{turn-given, turn-busy}
use Rattle.plan_engine.proofs.turns_on.Goals as goal

pub returns-in-Some : goal.returns-in-Some
returns-in-Some c =
    let e = c.in-Some.is in
    let h = rw e at c.requires in
    λ cs ns ps. rw e (turn-given _ _ h)

pub returns-in-None : goal.returns-in-None
returns-in-None c =
    λ cs ns ps. rw c.in-None.is (c.busy.ensures cs ns ps ∙ turn-busy _ 65536 (le_refl 65536))
