-- `saved::fields::places_at` meets its contract. The loop's invariant: the elements so far are stored. Assumes nothing.
use Prim.Native.Nat.{◌+◌}
use mathlib.Core.Path.{◌≡◌, refl, ◌∙◌}
use native.Mathlib.Omega.{arith}
use borrow.Author.Rules.{rules}
use lib.ListN.{get_or}
use Rattle.saved.specs.Saved.{places_at}
use Rattle.state.specs.Rows.{list_of}
use Rattle.state.proofs.Rows.{list_of-step, list_of-whole}
use Rattle.saved.proofs.fields.places_at.Goals as goal

pub loop-i-init : goal.loop-i-init
unfolding list_of
loop-i-init c =
    (search rules, refl)

pub loop-i-preserved : goal.loop-i-preserved
loop-i-preserved c =
    let l = c.loop-i in
    let bytes = c.args.bytes.now in
    let at = c.args.at in
    (search rules, rw (c.byte_at.ensures, l.invariant.1) (list_of-step (λ k. get_or bytes (at + k) 0) _ l.i))

pub returns : goal.returns
unfolding places_at
returns c =
    let l = c.loop-i in
    let bytes = c.args.bytes.now in
    let at = c.args.at in
    let e : l.i ≡ 8 = omega arith in
    rw e at l.invariant.1 ∙ list_of-whole (λ k. get_or bytes (at + k) 0) _ 8 refl
