-- `reasons::put_rest` meets its contract. The loop's invariant: what is left of the line gives the whole. Assumes nothing.
use Prim.Native.Nat.{◌-◌}
use mathlib.Core.Path.{◌≡◌, refl, sym, ap, ◌∙◌}
use borrow.Author.Rules.{rules}
use lib.ListN.{length, drop}
use Rattle.writing.specs.Buffer.{filled, puts}
use Rattle.writing.proofs.Buffer.{puts-nil}
use Rattle.reasons.specs.Reasons.{first_line}
use Rattle.reasons.proofs.Reasons.{first-none, first-end, first_step}
use Rattle.reasons.proofs.put_rest.Goals as goal

pub loop-i-init : goal.loop-i-init
loop-i-init c =
    refl

pub returns-then-table-i-eq10 : goal.returns-then-table-i-eq10
returns-then-table-i-eq10 c =
    let l = c.loop-i in
    let table = c.args.table.now in
    sym (puts-nil _)
    ∙ ap (λ x. puts (filled l.text l.p) x) (sym (first-end table l.i c.loop-i-test.true c.if-table-i-eq10.true))
    ∙ l.invariant

pub loop-i-preserved : goal.loop-i-preserved
loop-i-preserved c =
    let l = c.loop-i in
    let table = c.args.table.now in
    first_step table l.i (filled l.text l.p) _ c.loop-i-test.true
    c.if-table-i-eq10.false
    c.put_byte-p.ensures
    ∙ l.invariant

pub returns : goal.returns
returns c =
    let l = c.loop-i in
    let table = c.args.table.now in
    sym (puts-nil _)
    ∙ ap (λ x. puts (filled l.text l.p) x) (sym (first-none table l.i c.loop-i-test.false))
    ∙ l.invariant
