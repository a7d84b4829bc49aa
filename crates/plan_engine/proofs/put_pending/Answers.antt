-- `plan_engine::put_pending` meets its contract. The loop: the registers so far put.
use Prim.Native.Nat.{ℕ, ◌≤◌, ◌-◌}
use native.Mathlib.Omega.{arith}
use mathlib.Core.Path.{◌≡◌, refl, sym, ap, ◌∙◌}
use Rattle.masks.specs.Masks.{bits}
use Rattle.plan.specs.Plan.{plan_of}
use Rattle.plan_changes.specs.Scene.{changing}
use Rattle.plan_changes.specs.Changes.{opened}
use Rattle.plan_engine.specs.Acting.{put_register, put_pending}
use Rattle.plan_engine.proofs.Acting.{pending-more}
use borrow.Author.Rules.{rules}
use Rattle.plan_engine.proofs.put_pending.Goals as goal

pub loop-n-init : goal.loop-n-init
unfolding put_pending
loop-n-init c =
    (omega arith, refl)

pub loop-n-preserved : goal.loop-n-preserved
loop-n-preserved c =
    let a = c.args in
    let q = plan_of a.plan.now in
    let k = opened a.cells.now (bits a.due) in (
      omega arith,
      c.put_register-made.ensures
          ∙ ap (put_register q a.places.now (bits a.held) a.pending.now c.loop-n.n) c.loop-n.invariant.1
          ∙ sym (pending-more q a.places.now (bits a.held) a.pending.now c.loop-n.n k),
    )

pub returns : goal.returns
returns c =
    let a = c.args in
    let q = plan_of a.plan.now in
    let k = opened a.cells.now (bits a.due) in
    let e : c.loop-n.n ≡ c.registers-registers.result = omega arith in
    c.loop-n.invariant.1
    ∙ ap (λ (n : ℕ). put_pending q a.places.now (bits a.held) a.pending.now n k) (e ∙ c.registers-registers.ensures)
