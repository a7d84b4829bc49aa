-- `plan_engine::take_turns` meets its contract. The loop: the turns so far, and then those that are left, are all of them.
use Prim.Native.Nat.{ℕ, ◌≤◌, ◌-◌}
use native.Mathlib.Omega.{arith}
use mathlib.Core.Path.{◌≡◌, sym, ap, ◌∙◌}
use borrow.Author.Tests.{not-true, not-false}
use Rattle.plan.specs.Plan.{plan_of}
use Rattle.plan_engine.specs.Live.{live}
use Rattle.plan_engine.specs.Taking.{Taken, take_choice}
use Rattle.plan_engine.specs.Running.{given, turns}
use Rattle.plan_engine.proofs.Taking.{choice-room}
use Rattle.plan_engine.proofs.Running.{ahead, turns-whole, turns-on, turns-off, turns-end, turns-quiet}
use borrow.Author.Rules.{rules}
use Rattle.plan_engine.proofs.take_turns.Goals as goal

pub loop-i-init : goal.loop-i-init
loop-i-init c =
    (omega arith, turns-whole _ _ _ _ _)

pub returns-then-not-turns_on : goal.returns-then-not-turns_on
returns-then-not-turns_on c =
    let p = c.loop-i in
    let q = plan_of c.args.plan.now in
    let l = live p.cells p.pending p.places p.m in
    let b = sym (c.turns_on.ensures p.cells p.pending p.places) ∙ c.if-not-turns_on.true in
    sym (turns-quiet q (given c.args.c) p.left l p.i c.args.limit b) ∙ p.invariant.1

pub returns-then-t-ne0 : goal.returns-then-t-ne0
returns-then-t-ne0 c =
    let p = c.loop-i in
    let q = plan_of c.args.plan.now in
    let l = live p.cells p.pending p.places p.m in
    let b = sym (c.turns_on.ensures p.cells p.pending p.places) ∙ c.if-not-turns_on.false in
    let k = c.turn_choice-k.ensures p.cells p.pending p.places in
    let e = c.take-t.ensures ∙ ap (λ (c : ℕ). take_choice q p.left c l) k in
    let h = c.loop-i-test.true in
    sym (turns-off q (given c.args.c) p.left l p.i _ _ c.args.limit h b e c.if-t-ne0.true) ∙ p.invariant.1

pub overflow_sub-left : goal.overflow_sub-left
overflow_sub-left c =
    let p = c.loop-i in
    let q = plan_of c.args.plan.now in
    let l = live p.cells p.pending p.places p.m in
    let z = sym (ap (λ (t : Taken). t.number) c.take-t.ensures) ∙ c.if-t-ne0.false in
    let h : p.left ≡ 0 → ⊥ = λ u. choice-room q p.left u c.turn_choice-k.result l z in
    omega arith

pub loop-i-preserved : goal.loop-i-preserved
loop-i-preserved c =
    let p = c.loop-i in
    let q = plan_of c.args.plan.now in
    let l = live p.cells p.pending p.places p.m in
    let b = sym (c.turns_on.ensures p.cells p.pending p.places) ∙ c.if-not-turns_on.false in
    let k = c.turn_choice-k.ensures p.cells p.pending p.places in
    let e = c.take-t.ensures ∙ ap (λ (c : ℕ). take_choice q p.left c l) k in
    let h = c.loop-i-test.true in (
      omega arith,
      sym (turns-on q (given c.args.c) p.left l p.i _ _ c.args.limit h b e c.if-t-ne0.false) ∙ p.invariant.1,
    )

pub returns : goal.returns
returns c =
    let p = c.loop-i in
    let a = c.args in
    let l = live p.cells p.pending p.places p.m in
    let e : p.i ≡ a.limit = omega arith in
    let all = sym (turns-end (plan_of a.plan.now) (given a.c) p.left l p.i a.limit (omega arith)) ∙ p.invariant.1 in
    rw e at all
