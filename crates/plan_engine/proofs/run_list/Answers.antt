-- `plan_engine::run_list` meets its contract. The loop: the choices so far accepted, and then the run over the rest, are the
-- whole run.
use Prim.Native.Nat.{ℕ, ◌≤◌, ◌-◌}
use native.Mathlib.Omega.{arith}
use mathlib.Core.Path.{◌≡◌, sym, ap, ◌∙◌}
use lib.ListN.{length, drop}
use Rattle.plan.specs.Plan.{plan_of}
use Rattle.plan_engine.specs.Live.{live}
use Rattle.plan_engine.specs.Taking.{Taken, take_choice}
use Rattle.plan_engine.specs.Running.{run_list}
use Rattle.plan_engine.proofs.Taking.{choice-room}
use Rattle.plan_engine.proofs.Running.{ahead, ahead-zero, list_on, list-off, list-end}
use borrow.Author.Rules.{rules}
use Rattle.plan_engine.proofs.run_list.Goals as goal

pub loop-i-init : goal.loop-i-init
loop-i-init c =
    (omega arith, ahead-zero _)

pub returns-then-t-ne0 : goal.returns-then-t-ne0
returns-then-t-ne0 c =
    let p = c.loop-i in
    let q = plan_of c.args.plan.now in
    let l = live p.cells p.pending p.places p.m in
    let e = c.take_choice-t.ensures in
    sym (list-off q p.left l p.i _ _ c.args.choices.now c.loop-i-test.true e c.if-t-ne0.true) ∙ p.invariant.1

pub overflow_sub-left : goal.overflow_sub-left
overflow_sub-left c =
    let p = c.loop-i in
    let q = plan_of c.args.plan.now in
    let l = live p.cells p.pending p.places p.m in
    let z = sym (ap (λ (t : Taken). t.number) c.take_choice-t.ensures) ∙ c.if-t-ne0.false in
    let h : p.left ≡ 0 → ⊥ = λ u. choice-room q p.left u _ l z in
    omega arith

pub loop-i-preserved : goal.loop-i-preserved
loop-i-preserved c =
    let p = c.loop-i in
    let q = plan_of c.args.plan.now in
    let l = live p.cells p.pending p.places p.m in
    let e = c.take_choice-t.ensures in (
      omega arith,
      sym (list_on q p.left l p.i _ _ c.args.choices.now c.loop-i-test.true e c.if-t-ne0.false) ∙ p.invariant.1,
    )

pub returns : goal.returns
returns c =
    let p = c.loop-i in
    let q = plan_of c.args.plan.now in
    let e : p.i ≡ length c.args.choices.now = omega arith in
    let all =
    sym (list-end q p.left (live p.cells p.pending p.places p.m) p.i c.args.choices.now (omega arith))
    ∙ p.invariant.1 in
    rw e at all
