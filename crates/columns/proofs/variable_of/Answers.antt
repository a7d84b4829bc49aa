-- `columns::variable_of` meets its contract. The loop's invariant: the search from `v` on finds what the whole finds. Assumes nothing.
use native.Mathlib.Nat.{sub-zero}
use mathlib.Core.Path.{sym, ◌∙◌}
use Rattle.stimulus.proofs.Searching.{found-hit, found-miss, first-hit, first-miss, first-none}
use Rattle.columns.specs.Columns.{is_named, variable_of}
use Rattle.columns.proofs.variable_of.Goals as goal

pub loop-v-init : goal.loop-v-init
unfolding variable_of
loop-v-init c =
    rw (sub-zero c.args.n)

pub returns-then-same_name : goal.returns-then-same_name
unfolding is_named
returns-then-same_name c =
    found-hit _ _ _ (sym (first-hit _ _ _ c.loop-v-test.true (sym c.same_name.ensures ∙ c.if-same_name.true)) ∙ c.loop-v.invariant)
    c.loop-v-test.true

pub loop-v-preserved : goal.loop-v-preserved
unfolding is_named
loop-v-preserved c =
    sym (first-miss _ _ _ c.loop-v-test.true (sym c.same_name.ensures ∙ c.if-same_name.false))
    ∙ c.loop-v.invariant

pub returns : goal.returns
returns c =
    found-miss _ _ _ (sym (first-none _ _ _ c.loop-v-test.false) ∙ c.loop-v.invariant) c.loop-v-test.false
