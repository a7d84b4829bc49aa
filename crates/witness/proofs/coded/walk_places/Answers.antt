-- `coded::walk_places` meets its contract. The loop's invariant: the waits below `place` are walked from. Assumes nothing.
use mathlib.Core.Path.{◌≡◌, ap, ◌∙◌}
use Prim.Native.Nat.{ℕ, ◌-◌, ◌≤◌}
use native.Mathlib.Omega.{arith}
use Rattle.extraction.specs.Filling.{filling, walks_below_at}
use Rattle.extraction.proofs.Tables.{walks-none, walks_turn}
use borrow.Author.Rules.{rules}
use Rattle.witness.proofs.coded.walk_places.Goals as goal

pub loop-place-init : goal.loop-place-init
loop-place-init c =
    let a = c.args in
    (search rules, walks-none a.sheet.now a.code.now a.t a.size (filling a.e a.nodes.now a.rows.now))

pub loop-place-preserved : goal.loop-place-preserved
loop-place-preserved c =
    let a = c.args in
    let l = c.loop-place in
    let x = filling a.e a.nodes.now a.rows.now in
    (omega arith, walks_turn a.sheet.now a.code.now a.t a.size x l.place l.invariant.1 c.walk_from-x.ensures)

pub returns : goal.returns
returns c =
    let a = c.args in
    let l = c.loop-place in
    let e : l.place ≡ a.places = omega arith in
    l.invariant.1
    ∙ ap (λ (n : ℕ). walks_below_at a.sheet.now a.code.now a.t a.size n (filling a.e a.nodes.now a.rows.now)) e
