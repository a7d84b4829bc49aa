-- `labels::is_taken` meets its contract. The loop's invariant: the search from `u` on finds what the whole finds. Assumes nothing.
use mathlib.Core.Path.{refl, sym, ◌∙◌}
use Rattle.stimulus.proofs.Searching.{first-hit, first-miss, first-none}
use Rattle.labels.proofs.Labels.{taken-found, taken_not}
use Rattle.labels.proofs.is_taken.Goals as goal

pub loop-u-init : goal.loop-u-init
loop-u-init c =
    refl

pub returns-then-is_other : goal.returns-then-is_other
returns-then-is_other c =
    let l = c.loop-u-test.true in
    taken-found _ _ _ _ l
    (sym c.loop-u.invariant ∙ first-hit _ _ _ l (sym c.is_other.ensures ∙ c.if-is_other.true))

pub loop-u-preserved : goal.loop-u-preserved
loop-u-preserved c =
    sym (first-miss _ _ _ c.loop-u-test.true (sym c.is_other.ensures ∙ c.if-is_other.false))
    ∙ c.loop-u.invariant

pub returns : goal.returns
returns c =
    let l = c.loop-u-test.false in
    taken_not _ _ _ _ l (sym c.loop-u.invariant ∙ first-none _ _ _ l)
