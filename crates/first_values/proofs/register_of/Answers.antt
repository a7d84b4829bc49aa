-- `first_values::register_of` meets its contract. The loop's invariant: the search from `v` on finds what all finds. Assumes nothing.
use Rattle.std.proofs.Common.{sym, refl, ◌∙◌}
use Rattle.stimulus.proofs.Searching.{found-hit, found-miss, first-hit, first-miss, first-none}
use Rattle.first_values.specs.FirstValues.{is_named, register_of}
use Rattle.first_values.proofs.register_of.Goals as goal

pub loop-v-init : goal.loop-v-init
unfolding register_of
loop-v-init c =
    refl

pub returns-then-same_name : goal.returns-then-same_name
unfolding is_named
returns-then-same_name c =
    found-hit _ _ _ (sym (first-hit _ _ _ c.loop-v-test.true (sym c.same_name.ensures ∙ c.if-same_name.true)) ∙ c.loop-v.invariant)
    c.loop-v-test.true

pub loop-v-preserved : goal.loop-v-preserved
unfolding is_named
loop-v-preserved c =
    sym (first-miss _ _ _ c.loop-v-test.true (sym c.same_name.ensures ∙ c.if-same_name.false))
    ∙ c.loop-v.invariant

pub returns : goal.returns
returns c =
    found-miss _ _ _ (sym (first-none _ _ _ c.loop-v-test.false) ∙ c.loop-v.invariant) c.loop-v-test.false
