-- `saved::saving::put_allowances` meets its contract. The loop's invariant: the rows so far are put. Assumes nothing.
use mathlib.Core.Path.{◌≡◌, refl, ◌∙◌}
use native.Mathlib.Omega.{arith}
use borrow.Author.Rules.{rules}
use Rattle.state.specs.Rows.{rows}
use Rattle.saved.specs.Saved.{allowance_bytes}
use Rattle.saved.proofs.Stores.{allowances-step}
use Rattle.saved.proofs.saving.put_allowances.Goals as goal

pub loop-u-init : goal.loop-u-init
unfolding rows
loop-u-init c =
    (search rules, refl)

pub loop-u-preserved : goal.loop-u-preserved
loop-u-preserved c =
    let l = c.loop-u in
    let a = c.args in
    (search rules, c.put_word.ensures ∙ rw l.invariant.1 (allowances-step a.allowances.now a.out.now l.u))

pub returns : goal.returns
unfolding allowance_bytes
returns c =
    let l = c.loop-u in
    let e : l.u ≡ 4 = omega arith in
    rw e at l.invariant.1
