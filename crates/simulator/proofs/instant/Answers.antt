-- `simulator::instant` meets its contract: a sheet that is refused, or the call on its plan. Assumes nothing.
use borrow.Author.Rules.{rules}
use mathlib.Core.Path.{◌∙◌}
use Prim.Native.Nat.{ℕ}
use lib.ListN.{length-replicate}
use Rattle.simulator.proofs.Answers.{inputs-small, instant-refused, calls_same}
use Rattle.simulator.proofs.instant.Goals as goal

pub returns-then-answer-ne0 : goal.returns-then-answer-ne0
returns-then-answer-ne0 c =
    c.refused.ensures ∙ instant-refused _ _ c.prepare-answer.ensures.value _ c.if-answer-ne0.true _

pub returns : goal.returns
returns c =
    let p = c.prepare-answer.ensures in
    c.instant.ensures
    ∙ (calls_same _ _ p.value c.args.st c.if-answer-ne0.false _ _ (length-replicate {A = ℕ} 25212 0) p.plan_after c.well_formed.1.0).instant
    c.args.a (inputs-small c.args.a c.well_formed.1.1.0)
