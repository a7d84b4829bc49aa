-- `waveform::put_declarations` meets its contract. The loop's invariant: what is still to be put gives the whole.
-- Assumes nothing.
use Prim.Native.Nat.{◌≤◌, ◌-◌}
use mathlib.Core.Path.{◌≡◌, sym, ◌∙◌, ap}
use native.Mathlib.Omega.{arith}
use Rattle.writing.specs.Buffer.{filled, puts}
use Rattle.naming.specs.Naming.{texts, within}
use Rattle.naming.proofs.Naming.{texts-next, texts-done, within-80}
use Rattle.waveform.specs.Waveform.{declaration, declarations}
use borrow.Author.Rules.{rules}
use Rattle.waveform.proofs.put_declarations.Goals as goal

pub loop-v-init : goal.loop-v-init
unfolding declarations
loop-v-init c =
    let a = c.args in
    let e : c.within-end.result - 0 ≡ within a.n = omega (arith, c.within-end.ensures) in (
      search rules,
      omega (arith, within-80 a.n),
      ap (λ k. puts (filled a.text.now a.pos)
          (texts (declaration a.widths.now a.names.now a.inputs a.registers) k 0)) e,
    )

pub loop-v-preserved : goal.loop-v-preserved
loop-v-preserved c =
    let l = c.loop-v in
    let a = c.args in (
      search rules,
      l.invariant.1,
      texts-next (declaration a.widths.now a.names.now a.inputs a.registers) (filled l.text l.p) _
          c.within-end.result l.v c.loop-v-test.true c.put_declaration-p.ensures
          ∙ l.invariant.2,
    )

pub returns : goal.returns
returns c =
    let l = c.loop-v in
    let a = c.args in
    sym (texts-done (declaration a.widths.now a.names.now a.inputs a.registers) (filled l.text l.p)
    c.within-end.result l.v c.loop-v-test.false)
    ∙ l.invariant.2
