-- `columns::name_end` meets its contract. The loop's invariant: the search from `i` on finds what the whole finds. Assumes nothing.
use native.Mathlib.Omega.{arith}
use borrow.Author.Tests.{eq-eqb, ne_eqb}
use mathlib.Core.Path.{refl, sym, ◌∙◌}
use lib.ListN.{length}
use Rattle.stimulus.proofs.Searching.{first-hit, first-miss, first-none}
use Rattle.columns.specs.Columns.{is_comma, name_end}
use Rattle.columns.proofs.name_end.Goals as goal

pub loop-i-init : goal.loop-i-init
unfolding name_end
loop-i-init c =
    (omega arith, refl)

pub returns-then-word-i-eq44 : goal.returns-then-word-i-eq44
unfolding is_comma
returns-then-word-i-eq44 c =
    sym (first-hit _ _ _ c.loop-i-test.true (eq-eqb _ _ c.if-word-i-eq44.true)) ∙ c.loop-i.invariant.1

pub loop-i-preserved : goal.loop-i-preserved
unfolding is_comma
loop-i-preserved c =
    (omega arith, sym (first-miss _ _ _ c.loop-i-test.true (ne_eqb _ _ c.if-word-i-eq44.false)) ∙ c.loop-i.invariant.1)

pub returns : goal.returns
returns c =
    let h = first-none (is_comma c.args.word.now) (length c.args.word.now) c.loop-i.i c.loop-i-test.false in
    let e = c.loop-i.invariant.1 in
    omega arith
