-- `stimulus::words::run_end` meets its contract. The loop's invariant: the run from `i` on ends where the whole does.
-- Assumes nothing.
use native.Mathlib.Omega.{arith}
use mathlib.Core.Path.{refl, sym, ◌∙◌}
use Rattle.stimulus.proofs.Runs.{run-stays, run-goes, run-done}
use Rattle.stimulus.proofs.words.run_end.Goals as goal

pub loop-i-init : goal.loop-i-init
loop-i-init c =
    (omega arith, refl)

pub returns-then-not-in_class : goal.returns-then-not-in_class
returns-then-not-in_class c =
    sym (run-stays _ _ _ c.loop-i-test.true (sym c.in_class.ensures ∙ c.if-not-in_class.true)) ∙ c.loop-i.invariant.1

pub loop-i-preserved : goal.loop-i-preserved
loop-i-preserved c =
    (omega arith, sym (run-goes _ _ _ c.loop-i-test.true (sym c.in_class.ensures ∙ c.if-not-in_class.false)) ∙ c.loop-i.invariant.1)

pub returns : goal.returns
returns c =
    let h = run-done c.args.class c.args.line.now c.loop-i.i c.loop-i-test.false in
    let e = c.loop-i.invariant.1 in
    omega arith
