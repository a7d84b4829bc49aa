-- `drawing::put_stretches` meets its contract. The loop's invariant: what is still to be put gives the whole. Assumes nothing.
use Prim.Native.Nat.{◌-◌}
use mathlib.Core.Path.{◌∙◌, ◌≡◌, ap, sym}
use native.Mathlib.Omega.{arith}
use borrow.Author.Rules.{rules}
use Rattle.drawing.specs.Drawing.{halves, stretch_from, value_in}
use Rattle.naming.proofs.Naming.{texts-done, texts-next}
use Rattle.naming.specs.Naming.{texts}
use Rattle.writing.specs.Buffer.{filled, puts}
use Rattle.drawing.proofs.put_stretches.Goals as goal

pub loop-h-init : goal.loop-h-init
loop-h-init c =
    let a = c.args in
    let e : c.halves-end.result - 0 ≡ halves a.d = omega (arith, c.halves-end.ensures.value) in (
      search rules,
      omega (arith, c.halves-end.ensures.value, c.halves-end.ensures.upper_bound),
      ap (λ n. puts (filled a.text.now a.pos) (texts (stretch_from a.d a.width (value_in a.trace.now a.v)) n 0)) e,
    )

pub loop-h-preserved : goal.loop-h-preserved
loop-h-preserved c =
    let l = c.loop-h in
    let a = c.args in
    let t = filled l.text l.p in (
      search rules,
      l.invariant.1,
      texts-next (stretch_from a.d a.width (value_in a.trace.now a.v)) t _ c.halves-end.result
          l.h c.loop-h-test.true c.put_from-p.ensures ∙ l.invariant.2,
    )

pub returns : goal.returns
returns c =
    let l = c.loop-h in
    let a = c.args in
    sym (texts-done (stretch_from a.d a.width (value_in a.trace.now a.v)) (filled l.text l.p) c.halves-end.result
    l.h c.loop-h-test.false) ∙ l.invariant.2
