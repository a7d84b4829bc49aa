-- `options::judging::misfit` meets its contract. The loop's invariant: the slots from `k` on have the misfit of all. Assumes nothing.
use mathlib.Core.Path.{◌≡◌, refl, sym, ap, ◌∙◌}
use native.Mathlib.Omega.{arith}
use lib.ListN.{length}
use Rattle.stimulus.specs.Counting.{found_at}
use Rattle.options.proofs.Misfits.{misfit-some, misfit-none, misfit-found, misfit-more}
use Rattle.options.proofs.judging.misfit.Goals as goal

pub loop-k-init : goal.loop-k-init
loop-k-init c =
    refl

pub returns-then-is_misfit : goal.returns-then-is_misfit
returns-then-is_misfit c =
    let g : length c.args.at ≡ 40 = c.well_formed.1.0.1.0.1 in
    misfit-some _ _ _ _
    (sym (misfit-found c.args.command c.args.at c.loop-k.k (omega (arith, c.loop-k-test.true))
    (sym c.is_misfit.ensures ∙ c.if-is_misfit.true)) ∙ c.loop-k.invariant)
    (sym c.is_misfit.ensures ∙ c.if-is_misfit.true)

pub loop-k-preserved : goal.loop-k-preserved
loop-k-preserved c =
    let g : length c.args.at ≡ 40 = c.well_formed.1.0.1.0.1 in
    sym (misfit-more c.args.command c.args.at c.loop-k.k (omega (arith, c.loop-k-test.true))
    (sym c.is_misfit.ensures ∙ c.if-is_misfit.false)) ∙ c.loop-k.invariant

pub returns : goal.returns
returns c =
    let g : length c.args.at ≡ 40 = c.well_formed.1.0.1.0.1 in
    ap found_at (sym (misfit-none c.args.command c.args.at c.loop-k.k (omega (arith, c.loop-k-test.false))) ∙ c.loop-k.invariant)
