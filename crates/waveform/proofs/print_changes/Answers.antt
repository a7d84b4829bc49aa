-- `waveform::print_changes` meets its contract. The loop's invariant: what is still to be put gives the whole.
-- Assumes nothing.
use Prim.Native.Nat.{◌≤◌, ◌-◌}
use mathlib.Core.Path.{◌≡◌, sym, ◌∙◌, ap}
use native.Mathlib.Omega.{arith}
use mathlib.Core.List.{[]}
use lib.ListN.{get_or}
use Rattle.values.specs.Values.{pick, same}
use Rattle.values.specs.Cells.{cell_at}
use Rattle.writing.specs.Buffer.{filled, puts}
use Rattle.naming.specs.Naming.{texts, within}
use Rattle.naming.proofs.Naming.{texts-next, texts-done, within-80}
use Rattle.waveform.specs.Waveform.{value_line, value_of, change_of, changes}
use borrow.Author.Rules.{rules}
use Rattle.waveform.proofs.print_changes.Goals as goal

pub loop-v-init : goal.loop-v-init
unfolding changes
loop-v-init c =
    let a = c.args in
    let e : c.within-end.result - 0 ≡ within a.n = omega (arith, c.within-end.ensures) in
    let f = change_of a.widths.now (cell_at a.old.now) (cell_at a.new.now) in (
      search rules,
      omega (arith, c.within-end.ensures, within-80 a.n),
      ap (λ k. puts (filled a.text.now a.pos) (texts f k 0)) e,
    )

pub loop-v-preserved : goal.loop-v-preserved
unfolding change_of value_of
loop-v-preserved c =
    let l = c.loop-v in
    let a = c.args in
    let t = filled l.text l.p in
    let old = cell_at a.old.now in
    let new = cell_at a.new.now in
    let o = c.value_in-a in
    let r = c.value_in-b in
    let e =
    c.put_change-p.ensures
    ∙ ap (λ w. puts t (pick (same o.result r.result) [] (value_line w l.v r.result))) c.byte_at-w.ensures
    ∙ ap (λ x. puts t (pick (same x r.result) [] (value_line (get_or a.widths.now l.v 0) l.v r.result))) o.ensures
    ∙ ap (λ x. puts t (pick (same (old l.v) x) [] (value_line (get_or a.widths.now l.v 0) l.v x))) r.ensures in (
      search rules,
      l.invariant.1,
      texts-next (change_of a.widths.now old new) t _ c.within-end.result l.v c.loop-v-test.true e ∙ l.invariant.2,
    )

pub returns : goal.returns
returns c =
    let l = c.loop-v in
    let a = c.args in
    let f = change_of a.widths.now (cell_at a.old.now) (cell_at a.new.now) in
    sym (texts-done f (filled l.text l.p) c.within-end.result l.v c.loop-v-test.false) ∙ l.invariant.2
