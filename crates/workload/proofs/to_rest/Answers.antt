-- `workload::to_rest` meets its contract. The loop's invariant: the commits that are left come to what all come to. Assumes nothing.
use mathlib.Core.Path.{◌≡◌, refl, sym, ◌∙◌}
use Prim.Native.Nat.{◌+◌, ◌-◌}
use native.Mathlib.Omega.{arith}
use Rattle.workload.proofs.Tracing.{rest-none, rest-stopped, rest_over, rest_more}
use Rattle.workload.proofs.to_rest.Goals as goal

pub loop-init : goal.loop-init
loop-init c =
    (omega arith, refl)

pub returns-then-w-ne0 : goal.returns-then-w-ne0
returns-then-w-ne0 c =
    sym (rest-stopped _ _ _ _ (65535 - c.loop.counter) (omega (arith, c.loop-test.true)) _ c.stretched-w.ensures c.if-w-ne0.true)
    ∙ c.loop.invariant.1

pub returns-then-is_over : goal.returns-then-is_over
returns-then-is_over c =
    sym (rest_over _ _ _ _ (65535 - c.loop.counter) (omega (arith, c.loop-test.true)) _ c.stretched-w.ensures c.if-w-ne0.false _
    c.committed-c.ensures (sym c.is_over.ensures ∙ c.if-is_over.true))
    ∙ c.loop.invariant.1

pub loop-preserved : goal.loop-preserved
loop-preserved c =
    let l = c.loop in
    let less : 65535 - (l.counter + 1) ≡ 65535 - l.counter - 1 = omega arith in (
      omega (arith, c.loop-test.true),
      rw less
          (sym (rest_more _ _ _ _ (65535 - l.counter) (omega (arith, c.loop-test.true)) _ c.stretched-w.ensures c.if-w-ne0.false _
          c.committed-c.ensures (sym c.is_over.ensures ∙ c.if-is_over.false))
          ∙ l.invariant.1),
    )

pub returns : goal.returns
returns c =
    sym (rest-none _ _ _ _ (65535 - c.loop.counter) (omega (arith, c.loop-test.false))) ∙ c.loop.invariant.1
