-- `plan_changes::move_on` meets its contract. The loop: the threads so far have gone on.
use Prim.Native.Nat.{ℕ}
use native.Mathlib.Omega.{arith}
use mathlib.Core.Path.{◌≡◌, refl, sym, ap, ◌∙◌}
use Rattle.masks.specs.Masks.{bits}
use Rattle.plan.specs.Plan.{plan_of}
use Rattle.plan_changes.specs.Scene.{stand}
use Rattle.plan_changes.specs.Changes.{eight, move_thread, move_below, move}
use Rattle.plan_changes.proofs.Changes.{eight-most, min-eight, move-more}
use Rattle.plan_changes.proofs.move_on.Goals as goal

pub returns-then-not-any : goal.returns-then-not-any
unfolding move
returns-then-not-any c =
    rw (sym c.any.ensures ∙ c.if-not-any.true)

pub loop-i-init : goal.loop-i-init
unfolding move_below
loop-i-init c =
    (omega arith, omega (arith, c.min-n.ensures, eight-most c.threads.result, min-eight c.threads.result), refl)

pub move_thread-marks-requires : goal.move_thread-marks-requires
move_thread-marks-requires c =
    omega arith

pub loop-i-preserved : goal.loop-i-preserved
loop-i-preserved c =
    let q = plan_of c.args.plan.now in
    let s = stand c.args.places.now (bits c.args.ready) in (
      omega arith,
      omega arith,
      c.move_thread-marks.ensures
          ∙ ap (move_thread q (bits c.args.woken) c.loop-i.i) c.loop-i.invariant.2
          ∙ sym (move-more q _ c.loop-i.i s),
    )

pub returns : goal.returns
unfolding move
returns c =
    let q = plan_of c.args.plan.now in
    let s = stand c.args.places.now (bits c.args.ready) in
    let e : c.loop-i.i ≡ c.min-n.result = omega arith in
    let m = e ∙ c.min-n.ensures ∙ min-eight _ ∙ ap eight c.threads.ensures in
    rw (sym c.any.ensures ∙ c.if-not-any.false)
    (c.loop-i.invariant.2 ∙ ap (λ (n : ℕ). move_below q (bits c.args.woken) n s) m)
