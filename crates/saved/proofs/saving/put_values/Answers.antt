-- `saved::saving::put_values` meets its contract. The loop's invariant: the rows so far are put. Assumes nothing.
use mathlib.Core.Path.{◌≡◌, refl, ◌∙◌}
use native.Mathlib.Omega.{arith}
use borrow.Author.Rules.{rules}
use Rattle.state.specs.Rows.{rows}
use Rattle.saved.specs.Saved.{value_bytes}
use Rattle.saved.proofs.Stores.{values-step}
use Rattle.saved.proofs.saving.put_values.Goals as goal

pub loop-v-init : goal.loop-v-init
unfolding rows
loop-v-init c =
    (search rules, refl)

pub loop-v-preserved : goal.loop-v-preserved
loop-v-preserved c =
    let l = c.loop-v in
    let a = c.args in (
      search rules,
      c.put_word-in-loop-v.ensures
          ∙ rw (c.put_word.ensures, l.invariant.1)
          (values-step a.value.now a.unknown.now a.out.now l.v),
    )

pub returns : goal.returns
unfolding value_bytes
returns c =
    let l = c.loop-v in
    let e : l.v ≡ 80 = omega arith in
    rw e at l.invariant.1
