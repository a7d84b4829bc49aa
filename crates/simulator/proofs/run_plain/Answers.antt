-- `simulator::run_plain` meets its contract: a sheet that is refused, or the call on its plan. Assumes nothing.
use borrow.Author.Rules.{rules}
use mathlib.Core.Path.{◌∙◌}
use Prim.Native.Nat.{ℕ}
use lib.ListN.{length-replicate}
use Rattle.simulator.proofs.Answers.{plain-refused, calls_same}
use Rattle.simulator.proofs.run_plain.Goals as goal

pub returns-then-read-ne0 : goal.returns-then-read-ne0
returns-then-read-ne0 c =
    plain-refused _ _ c.prepare-read.ensures.value _ c.if-read-ne0.true _ _

pub returns : goal.returns
returns c =
    let p = c.prepare-read.ensures in
    c.run_plain.ensures
    ∙ (calls_same _ _ p.value c.args.st c.if-read-ne0.false _ _ (length-replicate {A = ℕ} 25212 0) p.plan_after c.well_formed.1.0).plain
    _ _
