-- `plan_engine::plain_choice` meets its contract. Assumes nothing.
use mathlib.Core.Path.{sym, ap, ◌∙◌}
use Prim.Native.Nat.{ℕ, ◌+◌}
use native.Mathlib.Omega.{arith}
use Rattle.masks.specs.Masks.{bits}
use Rattle.masks.proofs.Masks.{length-bits, first-lt}
use Rattle.plan.specs.Plan.{plan_of}
use Rattle.plan_engine.specs.Live.{live}
use Rattle.plan_engine.proofs.Running.{choice-thread, choice-wire, choice-commit}
use borrow.Author.Rules.{rules}
use Rattle.plan_engine.proofs.plain_choice.Goals as goal

pub returns-then-any : goal.returns-then-any
returns-then-any c =
    λ cs ns ps.
    c.lowest.ensures
    ∙ choice-thread _ (live cs ns ps c.args.marks) (sym c.any.ensures ∙ c.if-any.true)

pub overflow_add-result : goal.overflow_add-result
overflow_add-result c =
    let d = c.args.marks.due in
    let e = first-lt (bits d) (sym c.any-2.ensures ∙ c.if-any-2.true) in
    let n = length-bits d in
    let l = c.lowest-then-any-2.ensures in
    let t = c.threads.ensures in
    omega arith

pub returns-then-any-2 : goal.returns-then-any-2
returns-then-any-2 c =
    λ cs ns ps.
    ap (λ (n : ℕ). n + c.lowest-then-any-2.result) c.threads.ensures
    ∙ ap (λ (n : ℕ). (plan_of c.args.plan.now).threads + n) c.lowest-then-any-2.ensures
    ∙ choice-wire _ (live cs ns ps c.args.marks) (sym c.any.ensures ∙ c.if-any.false)
    (sym c.any-2.ensures ∙ c.if-any-2.true)

pub returns : goal.returns
returns c =
    λ cs ns ps.
    choice-commit _ (live cs ns ps c.args.marks) (sym c.any.ensures ∙ c.if-any.false)
    (sym c.any-2.ensures ∙ c.if-any-2.false)
