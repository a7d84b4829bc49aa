-- `counted::run_up` meets its contract. The loop: the choices so far accepted and the wires so far stored, and then the run of the
-- choices that are left, are the whole run. Assumes nothing.
use native.Mathlib.Omega.{arith}
use mathlib.Core.Path.{◌≡◌, sym, ap, ◌∙◌}
use Rattle.plan.specs.Plan.{plan_of}
use Rattle.plan_engine.specs.Live.{live}
use Rattle.plan_engine.specs.Taking.{Taken}
use Rattle.plan_engine.proofs.Taking.{choice-room}
use Rattle.counted.proofs.Counting.{up-whole, up-end, up-stop, up-on, up-off}
use Rattle.counted.proofs.run_up.Goals as goal

pub loop-i-init : goal.loop-i-init
loop-i-init c =
    (omega arith, omega arith, up-whole _ _ _ _)

pub returns-then-c-ge-COMMIT : goal.returns-then-c-ge-COMMIT
returns-then-c-ge-COMMIT c =
    let p = c.loop-i in
    let q = plan_of c.args.plan.now in
    let l = live p.cells p.pending p.places p.m in
    let k = c.plain_choice-c.ensures p.cells p.pending p.places in
    sym (up-stop q p.left l p.i p.stores c.args.limit _ k c.if-c-ge-COMMIT.true) ∙ p.invariant.2

pub returns-then-t-ne0 : goal.returns-then-t-ne0
returns-then-t-ne0 c =
    let p = c.loop-i in
    let q = plan_of c.args.plan.now in
    let l = live p.cells p.pending p.places p.m in
    let k = c.plain_choice-c.ensures p.cells p.pending p.places in
    sym (up-off q p.left l p.i p.stores c.args.limit _ _ _ k (omega (arith, c.if-c-ge-COMMIT.false))
    c.loop-i-test.true c.take_choice-t.ensures c.if-t-ne0.true) ∙ p.invariant.2

pub overflow_sub-left : goal.overflow_sub-left
overflow_sub-left c =
    let p = c.loop-i in
    let q = plan_of c.args.plan.now in
    let l = live p.cells p.pending p.places p.m in
    let z = sym (ap (λ (t : Taken). t.number) c.take_choice-t.ensures) ∙ c.if-t-ne0.false in
    let h : p.left ≡ 0 → ⊥ = λ u. choice-room q p.left u c.plain_choice-c.result l z in
    omega arith

pub loop-i-preserved : goal.loop-i-preserved
loop-i-preserved c =
    let p = c.loop-i in
    let q = plan_of c.args.plan.now in
    let l = live p.cells p.pending p.places p.m in
    let k = c.plain_choice-c.ensures p.cells p.pending p.places in
    let s = c.stored-stores.ensures in (
      omega arith,
      omega (arith, s.upper_bound),
      sym (up-on q p.left l p.i p.stores c.args.limit _ _ _ k (omega (arith, c.if-c-ge-COMMIT.false))
          c.loop-i-test.true c.take_choice-t.ensures c.if-t-ne0.false _ s.value) ∙ p.invariant.2,
    )

pub returns : goal.returns
returns c =
    let p = c.loop-i in
    let q = plan_of c.args.plan.now in
    let e : p.i ≡ c.args.limit = omega arith in
    sym (up-end q p.left (live p.cells p.pending p.places p.m) c.args.limit p.stores
    c.args.limit (omega arith))
    ∙ (rw e at p.invariant.2)
