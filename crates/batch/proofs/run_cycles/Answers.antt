-- `batch::run_cycles` meets its contract: a sheet that is refused, or the cycles on its plan. Assumes nothing.
use borrow.Author.Rules.{rules}
use mathlib.Core.Path.{sym, ap, ◌∙◌}
use mathlib.Core.Bool.{false}
use Prim.Native.Nat.{ℕ}
use lib.ListN.{length-replicate}
use Rattle.state.proofs.Accessors.{shaped-good, bounded-good}
use Rattle.prepared.specs.declared.Prepared.{Prepared}
use Rattle.batch.specs.Cycles.{cycled}
use Rattle.batch.proofs.Answers.{read-refused, read-accepted}
use Rattle.batch.proofs.run_cycles.Goals as goal

pub returns-then-read-ne0 : goal.returns-then-read-ne0
returns-then-read-ne0 c =
    let a = c.args in
    let e = ap (λ (x : Prepared). x.number) c.prepare-read.ensures.value in
    c.refused_with.ensures
    ∙ ap (λ (n : ℕ). cycled 0 n false a.st) e
    ∙ read-refused a.sheet.now a.st a.user a.value.now a.unknown.now (λ z. c.if-read-ne0.true (e ∙ z))

pub returns : goal.returns
returns c =
    let a = c.args in
    let e = ap (λ (x : Prepared). x.number) c.prepare-read.ensures.value in
    c.told.ensures
    ∙ read-accepted a.sheet.now a.st a.user a.value.now a.unknown.now (sym e ∙ c.if-read-ne0.false) _ _
    (length-replicate {A = ℕ} 25212 0) c.prepare-read.ensures.plan_after (shaped-good a.st c.well_formed.1.0)
    (bounded-good a.st c.well_formed.1.0) _ c.run_cycles-c.ensures
