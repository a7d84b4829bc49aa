-- `plan_changes::wake` meets its contract. The loop: the threads so far are woken.
use Prim.Native.Nat.{ℕ}
use native.Mathlib.Omega.{arith}
use mathlib.Core.Path.{◌≡◌, refl, sym, ap, ◌∙◌}
use Rattle.masks.specs.Masks.{bits, any_mark}
use Rattle.values.specs.Cells.{value_of}
use Rattle.plan.specs.Plan.{plan_of}
use Rattle.plan_changes.specs.Changes.{eight, wake_thread, wake_below, wake}
use Rattle.plan_changes.proofs.Changes.{eight-most, min-eight, wake-more}
use Rattle.plan_changes.proofs.wake.Goals as goal

pub returns-then-not-any : goal.returns-then-not-any
unfolding wake
returns-then-not-any c =
    let e = ap any_mark (sym c.watchers-watchers.ensures) in
    rw (e ∙ sym c.any.ensures ∙ c.if-not-any.true)

pub loop-i-init : goal.loop-i-init
unfolding wake_below
loop-i-init c =
    (omega arith, omega (arith, c.min-n.ensures, eight-most c.threads.result, min-eight c.threads.result), refl)

pub wake_thread-marks-requires : goal.wake_thread-marks-requires
wake_thread-marks-requires c =
    omega arith

pub loop-i-preserved : goal.loop-i-preserved
loop-i-preserved c =
    let q = plan_of c.args.plan.now in
    let ps = c.args.places.now in
    let a = value_of c.args.old in
    let b = value_of c.args.new in (
      omega arith,
      omega arith,
      c.wake_thread-marks.ensures
          ∙ ap (wake_thread q ps c.args.v a b c.loop-i.i) c.loop-i.invariant.2
          ∙ sym (wake-more q ps c.args.v a b c.loop-i.i (bits c.args.woken)),
    )

pub returns : goal.returns
unfolding wake
returns c =
    let q = plan_of c.args.plan.now in
    let ps = c.args.places.now in
    let a = value_of c.args.old in
    let b = value_of c.args.new in
    let e : c.loop-i.i ≡ c.min-n.result = omega arith in
    let m = e ∙ c.min-n.ensures ∙ min-eight _ ∙ ap eight c.threads.ensures in
    let u = ap any_mark (sym c.watchers-watchers.ensures) in
    rw (u ∙ sym c.any.ensures ∙ c.if-not-any.false)
    (c.loop-i.invariant.2 ∙ ap (λ (n : ℕ). wake_below q ps c.args.v a b n (bits c.args.woken)) m)
