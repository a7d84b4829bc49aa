-- `comparison::first_place` meets its contract. The loop's invariant: the search from `i` on finds what the whole finds. Assumes nothing.
use Prim.Native.Nat.{ℕ, ◌-◌}
use mathlib.Core.Path.{◌≡◌, sym, ap, ◌∙◌}
use native.Mathlib.Omega.{arith}
use Rattle.stimulus.specs.Counting.{first_from}
use Rattle.stimulus.proofs.Searching.{found-hit, found-miss, first-hit, first-miss, first-none}
use Rattle.comparison.specs.Comparison.{places_differ}
use Rattle.comparison.proofs.Differences.{place-apart, place_same}
use Rattle.comparison.proofs.first_place.Goals as goal

pub loop-i-init : goal.loop-i-init
loop-i-init c =
    let a = c.args in
    let k : a.n - 0 ≡ a.n = omega arith in
    ap (λ (n : ℕ). first_from (places_differ a.a.now a.b.now) n 0) k

pub returns-then-place_in : goal.returns-then-place_in
unfolding places_differ
returns-then-place_in c =
    let l = c.loop-i in
    let a = c.args in
    found-hit _ _ _
    (sym (first-hit (places_differ a.a.now a.b.now) a.n l.i c.loop-i-test.true
    (place-apart c.place_in.ensures c.place_in-in-loop-i.ensures c.if-place_in.true)) ∙ l.invariant)
    c.loop-i-test.true

pub loop-i-preserved : goal.loop-i-preserved
unfolding places_differ
loop-i-preserved c =
    let l = c.loop-i in
    let a = c.args in
    sym (first-miss (places_differ a.a.now a.b.now) a.n l.i c.loop-i-test.true
    (place_same c.place_in.ensures c.place_in-in-loop-i.ensures c.if-place_in.false)) ∙ l.invariant

pub returns : goal.returns
returns c =
    let l = c.loop-i in
    let a = c.args in
    found-miss _ _ _ (sym (first-none (places_differ a.a.now a.b.now) a.n l.i c.loop-i-test.false) ∙ l.invariant) c.loop-i-test.false
