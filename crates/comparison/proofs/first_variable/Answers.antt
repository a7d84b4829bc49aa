-- `comparison::first_variable` meets its contract. The loop's invariant: the search from `v` on finds what the whole finds.
-- Assumes nothing.
use mathlib.Core.Bool.{not}
use mathlib.Core.Path.{refl, sym, ap, ◌∙◌}
use Rattle.stimulus.proofs.Searching.{found-hit, found-miss, first-hit, first-miss, first-none}
use Rattle.comparison.specs.Comparison.{values_differ}
use Rattle.comparison.proofs.Differences.{value_found}
use Rattle.comparison.proofs.first_variable.Goals as goal

pub loop-v-init : goal.loop-v-init
loop-v-init c =
    refl

pub returns-then-not-same : goal.returns-then-not-same
unfolding values_differ
returns-then-not-same c =
    let l = c.loop-v in
    let a = c.args in
    found-hit _ _ _
    (sym (first-hit (values_differ a.a.now a.b.now) a.to l.v c.loop-v-test.true
    (value_found c.value_in-here.ensures c.value_in-there.ensures c.same.ensures (ap not c.if-not-same.true))) ∙ l.invariant)
    c.loop-v-test.true

pub loop-v-preserved : goal.loop-v-preserved
unfolding values_differ
loop-v-preserved c =
    let l = c.loop-v in
    let a = c.args in
    sym (first-miss (values_differ a.a.now a.b.now) a.to l.v c.loop-v-test.true
    (value_found c.value_in-here.ensures c.value_in-there.ensures c.same.ensures (ap not c.if-not-same.false))) ∙ l.invariant

pub returns : goal.returns
returns c =
    let l = c.loop-v in
    let a = c.args in
    found-miss _ _ _ (sym (first-none (values_differ a.a.now a.b.now) a.to l.v c.loop-v-test.false) ∙ l.invariant) c.loop-v-test.false
