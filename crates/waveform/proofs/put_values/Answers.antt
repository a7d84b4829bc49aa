-- `waveform::put_values` meets its contract. The loop's invariant: what is still to be put gives the whole.
-- Assumes nothing.
use Prim.Native.Nat.{◌≤◌, ◌-◌}
use mathlib.Core.Path.{◌≡◌, sym, ◌∙◌, ap}
use native.Mathlib.Omega.{arith}
use lib.ListN.{get_or}
use Rattle.values.specs.Cells.{cell_at}
use Rattle.writing.specs.Buffer.{filled, puts}
use Rattle.naming.specs.Naming.{texts, within}
use Rattle.naming.proofs.Naming.{texts-next, texts-done, within-80}
use Rattle.waveform.specs.Waveform.{value_line, value_of}
use borrow.Author.Rules.{rules}
use Rattle.waveform.proofs.put_values.Goals as goal

pub loop-v-init : goal.loop-v-init
loop-v-init c =
    let a = c.args in
    let e : c.within-end.result - 0 ≡ within a.n = omega (arith, c.within-end.ensures) in (
      search rules,
      omega (arith, c.within-end.ensures, within-80 a.n),
      ap (λ k. puts (filled a.text.now a.pos) (texts (value_of a.widths.now (cell_at a.row.now)) k 0)) e,
    )

pub loop-v-preserved : goal.loop-v-preserved
unfolding value_of
loop-v-preserved c =
    let l = c.loop-v in
    let a = c.args in
    let t = filled l.text l.p in
    let e =
    c.put_value-p.ensures
    ∙ ap (λ w. puts t (value_line w l.v c.value_in-a.result)) c.byte_at-w.ensures
    ∙ ap (λ x. puts t (value_line (get_or a.widths.now l.v 0) l.v x)) c.value_in-a.ensures in (
      search rules,
      l.invariant.1,
      texts-next (value_of a.widths.now (cell_at a.row.now)) t _ c.within-end.result l.v c.loop-v-test.true e
          ∙ l.invariant.2,
    )

pub returns : goal.returns
returns c =
    let l = c.loop-v in
    let a = c.args in
    sym (texts-done (value_of a.widths.now (cell_at a.row.now)) (filled l.text l.p) c.within-end.result l.v
    c.loop-v-test.false)
    ∙ l.invariant.2
