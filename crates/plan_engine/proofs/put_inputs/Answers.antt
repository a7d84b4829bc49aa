-- `plan_engine::put_inputs` meets its contract. The loop: the inputs so far put.
use Prim.Native.Nat.{ℕ, ◌≤◌, ◌-◌}
use native.Mathlib.Omega.{arith}
use mathlib.Core.Path.{◌≡◌, refl, sym, ap, ◌∙◌}
use Rattle.values.specs.Planes.{value_at}
use Rattle.masks.specs.Masks.{bits}
use Rattle.values.specs.Cells.{cell_of}
use Rattle.plan.specs.Plan.{plan_of}
use Rattle.plan_changes.specs.Scene.{changing}
use Rattle.plan_changes.specs.Changes.{put, opened}
use Rattle.plan_engine.specs.Acting.{put_inputs}
use Rattle.plan_engine.proofs.Acting.{inputs-more}
use borrow.Author.Rules.{rules}
use Rattle.plan_engine.proofs.put_inputs.Goals as goal

pub loop-n-init : goal.loop-n-init
unfolding put_inputs
loop-n-init c =
    (omega arith, refl)

pub loop-n-preserved : goal.loop-n-preserved
loop-n-preserved c =
    let a = c.args in
    let q = plan_of a.plan.now in
    let f = value_at a.value.now a.unknown.now in
    let k = opened a.cells.now (bits a.due) in
    let e = c.store-c.ensures ∙ ap cell_of c.value_at.ensures in (
      omega arith,
      c.put-made.ensures
          ∙ ap (put q a.places.now c.loop-n.n c.store-c.result) c.loop-n.invariant.1
          ∙ ap (λ (x : ℕ). put q a.places.now c.loop-n.n x (put_inputs q a.places.now f c.loop-n.n k)) e
          ∙ sym (inputs-more q a.places.now f c.loop-n.n k),
    )

pub returns : goal.returns
returns c =
    let a = c.args in
    let q = plan_of a.plan.now in
    let f = value_at a.value.now a.unknown.now in
    let k = opened a.cells.now (bits a.due) in
    let e : c.loop-n.n ≡ c.inputs-inputs.result = omega arith in
    c.loop-n.invariant.1 ∙ ap (λ (n : ℕ). put_inputs q a.places.now f n k) (e ∙ c.inputs-inputs.ensures)
