-- `saved::saving::put_places` meets its contract. The loop's invariant: the rows so far are put. Assumes nothing.
use mathlib.Core.Path.{◌≡◌, refl}
use native.Mathlib.Omega.{arith}
use borrow.Author.Rules.{rules}
use Rattle.state.specs.Rows.{rows}
use Rattle.saved.specs.Saved.{place_bytes}
use Rattle.saved.proofs.Stores.{places-step}
use Rattle.saved.proofs.saving.put_places.Goals as goal

pub loop-i-init : goal.loop-i-init
unfolding rows
loop-i-init c =
    (search rules, refl)

pub loop-i-preserved : goal.loop-i-preserved
loop-i-preserved c =
    let l = c.loop-i in
    let a = c.args in
    (search rules, rw l.invariant.1 (places-step a.places.now a.out.now l.i))

pub returns : goal.returns
unfolding place_bytes
returns c =
    let l = c.loop-i in
    let e : l.i ≡ 8 = omega arith in
    rw e at l.invariant.1
