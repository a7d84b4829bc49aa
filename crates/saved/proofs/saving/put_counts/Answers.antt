-- `saved::saving::put_counts` meets its contract. The loop's invariant: the rows so far are put. Assumes nothing.
use mathlib.Core.Path.{◌≡◌, refl, ◌∙◌}
use native.Mathlib.Omega.{arith}
use borrow.Author.Rules.{rules}
use Rattle.state.specs.Rows.{rows}
use Rattle.saved.specs.Saved.{count_bytes}
use Rattle.saved.proofs.Stores.{counts_step}
use Rattle.saved.proofs.saving.put_counts.Goals as goal

pub loop-u-init : goal.loop-u-init
unfolding rows
loop-u-init c =
    (search rules, refl)

pub loop-u-preserved : goal.loop-u-preserved
loop-u-preserved c =
    let l = c.loop-u in
    let a = c.args in
    (search rules, c.put_long.ensures ∙ rw l.invariant.1 (counts_step a.counts.now a.out.now l.u))

pub returns : goal.returns
unfolding count_bytes
returns c =
    let l = c.loop-u in
    let e : l.u ≡ 4 = omega arith in
    rw e at l.invariant.1
