-- `verilog_tokens::characters::run_end` meets its contract. The loop's invariant: the run from `i` on ends where the whole does.
-- Assumes nothing.
use mathlib.Core.Path.{◌≡◌, refl, sym, ◌∙◌}
use Prim.Native.Nat.{max}
use native.Mathlib.Omega.{arith}
use lib.ListN.{length}
use Rattle.verilog_tokens.proofs.Runs.{run-stays, run-goes, run-done}
use Rattle.verilog_tokens.proofs.characters.run_end.Goals as goal

pub loop-i-init : goal.loop-i-init
loop-i-init c =
    (omega arith, refl)

pub returns-then-not-in_class : goal.returns-then-not-in_class
returns-then-not-in_class c =
    sym (run-stays _ _ _ c.loop-i-test.true (sym c.in_class.ensures ∙ c.if-not-in_class.true)) ∙ c.loop-i.invariant.1

pub loop-i-preserved : goal.loop-i-preserved
loop-i-preserved c =
    let l = c.loop-i in (
      omega (arith, c.loop-i-test.true),
      sym (run-goes _ _ _ c.loop-i-test.true (sym c.in_class.ensures ∙ c.if-not-in_class.false)) ∙ l.invariant.1,
    )

pub returns : goal.returns
returns c =
    let l = c.loop-i in
    let e : max c.args.at (length c.args.text.now) ≡ l.i = omega (arith, l.invariant.0, l.auto.i, c.loop-i-test.false) in
    c.max.ensures ∙ e ∙ sym (run-done _ _ _ c.loop-i-test.false) ∙ l.invariant.1
