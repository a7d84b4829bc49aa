-- `drawing::put_rises` meets its contract. The loop's invariant: what is still to be put gives the whole. Assumes nothing.
use Prim.Native.Nat.{◌-◌}
use mathlib.Core.Path.{◌∙◌, ◌≡◌, ap, sym}
use native.Mathlib.Omega.{arith}
use borrow.Author.Rules.{rules}
use Rattle.drawing.specs.Drawing.{rise}
use Rattle.naming.proofs.Naming.{texts-done, texts-next}
use Rattle.naming.specs.Naming.{texts}
use Rattle.writing.specs.Buffer.{filled, puts}
use Rattle.drawing.proofs.put_rises.Goals as goal

pub loop-k-init : goal.loop-k-init
loop-k-init c =
    let a = c.args in
    let e : a.d.cycles - 0 ≡ a.d.cycles = omega arith in (
      search rules,
      omega arith,
      ap (λ n. puts (filled a.text.now a.pos) (texts (rise a.d) n 0)) e,
    )

pub loop-k-preserved : goal.loop-k-preserved
loop-k-preserved c =
    let l = c.loop-k in
    let a = c.args in
    let t = filled l.text l.p in (
      search rules,
      l.invariant.1,
      texts-next (rise a.d) t _ a.d.cycles l.k c.loop-k-test.true c.put_rise-p.ensures
          ∙ l.invariant.2,
    )

pub returns : goal.returns
returns c =
    let l = c.loop-k in
    let a = c.args in
    sym (texts-done (rise a.d) (filled l.text l.p) a.d.cycles l.k c.loop-k-test.false) ∙ l.invariant.2
