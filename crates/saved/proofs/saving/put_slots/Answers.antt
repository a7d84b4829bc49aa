-- `saved::saving::put_slots` meets its contract. The loop's invariant: the rows so far are put. Assumes nothing.
use mathlib.Core.Path.{◌≡◌, refl, ◌∙◌}
use native.Mathlib.Omega.{arith}
use borrow.Author.Rules.{rules}
use Rattle.state.specs.Rows.{rows}
use Rattle.saved.specs.Saved.{slot_bytes}
use Rattle.saved.proofs.Stores.{byte-flag, slots-step}
use Rattle.saved.proofs.saving.put_slots.Goals as goal

pub loop-r-init : goal.loop-r-init
unfolding rows
loop-r-init c =
    (search rules, refl)

pub loop-r-preserved : goal.loop-r-preserved
loop-r-preserved c =
    let l = c.loop-r in
    let a = c.args in (
      search rules,
      c.put_word-in-loop-r.ensures
          ∙ rw (c.put_word.ensures, byte-flag _, l.invariant.1)
          (slots-step a.held.now a.pending.now a.unsure.now a.out.now l.r),
    )

pub returns : goal.returns
unfolding slot_bytes
returns c =
    let l = c.loop-r in
    let e : l.r ≡ 32 = omega arith in
    rw e at l.invariant.1
