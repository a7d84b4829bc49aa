-- `saved::saving::put_due` meets its contract. The loop's invariant: the rows so far are put. Assumes nothing.
use mathlib.Core.Path.{◌≡◌, refl}
use native.Mathlib.Omega.{arith}
use borrow.Author.Rules.{rules}
use Rattle.state.specs.Rows.{rows}
use Rattle.saved.specs.Saved.{due_bytes}
use Rattle.saved.proofs.Stores.{byte-flag, due-step}
use Rattle.saved.proofs.saving.put_due.Goals as goal

pub loop-k-init : goal.loop-k-init
unfolding rows
loop-k-init c =
    (search rules, refl)

pub loop-k-preserved : goal.loop-k-preserved
loop-k-preserved c =
    let l = c.loop-k in
    let a = c.args in
    (search rules, rw (byte-flag _, l.invariant.1) (due-step a.due.now a.out.now l.k))

pub returns : goal.returns
unfolding due_bytes
returns c =
    let l = c.loop-k in
    let e : l.k ≡ 32 = omega arith in
    rw e at l.invariant.1
