-- `tabulate::put_titles` meets its contract. The loop's invariant: what is still to be put gives the whole. Assumes nothing.
use Prim.Native.Nat.{◌≤◌, ◌-◌}
use mathlib.Core.Path.{◌≡◌, refl, sym, ◌∙◌}
use lib.ListN.{length, drop}
use borrow.Author.Rules.{rules}
use Rattle.writing.specs.Buffer.{filled, puts}
use Rattle.tabulate.specs.Tabulate.{title, columns}
use Rattle.tabulate.proofs.Tabulate.{columns-next, columns-done}
use Rattle.tabulate.proofs.put_titles.Goals as goal

pub loop-v-init : goal.loop-v-init
loop-v-init c =
    refl

pub loop-v-preserved : goal.loop-v-preserved
loop-v-preserved c =
    let l = c.loop-v in
    let a = c.args in
    columns-next (title a.form a.widths.now a.names.now) (filled l.text l.p) _ a.vs.now l.v-index c.loop-v-test.true
    c.put_title-p.ensures
    ∙ l.invariant

pub returns : goal.returns
returns c =
    let l = c.loop-v in
    let a = c.args in
    sym (columns-done (title a.form a.widths.now a.names.now) (filled l.text l.p) a.vs.now l.v-index c.loop-v-test.false)
    ∙ l.invariant
