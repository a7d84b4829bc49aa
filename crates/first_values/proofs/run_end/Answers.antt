-- `first_values::run_end` meets its contract. The loop's invariant: the search from `i` on finds what the whole finds. Assumes nothing.
use Rattle.std.proofs.Common.{length, sym, refl, ◌∙◌, arith}
use Rattle.stimulus.proofs.Searching.{first-hit, first-miss, first-none}
use Rattle.first_values.specs.FirstValues.{ends, run_end}
use Rattle.first_values.proofs.run_end.Goals as goal

pub loop-i-init : goal.loop-i-init
unfolding run_end
loop-i-init c =
    (omega arith, refl)

pub returns-then-ends : goal.returns-then-ends
returns-then-ends c =
    sym (first-hit _ _ _ c.loop-i-test.true (sym c.ends.ensures ∙ c.if-ends.true))
    ∙ c.loop-i.invariant.1

pub loop-i-preserved : goal.loop-i-preserved
loop-i-preserved c =
    (omega arith, sym (first-miss _ _ _ c.loop-i-test.true (sym c.ends.ensures ∙ c.if-ends.false)) ∙ c.loop-i.invariant.1)

pub returns : goal.returns
returns c =
    let h = first-none (ends c.args.blank c.args.line.now) (length c.args.line.now) c.loop-i.i c.loop-i-test.false in
    let e = c.loop-i.invariant.1 in
    omega arith
