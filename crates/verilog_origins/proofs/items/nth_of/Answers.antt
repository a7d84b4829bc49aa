-- `verilog_origins::items::nth_of` meets its contract. The loop's invariant: what is left to be counted from `i` on is token k of all.
-- Assumes nothing.
use mathlib.Core.Path.{sym, ◌∙◌}
use native.Mathlib.Omega.{arith}
use Rattle.verilog_names.proofs.Chosen.{capped-kept}
use Rattle.verilog_origins.proofs.Placing.{nth-all, nth-done, nth-hit, nth-pass, nth-skip}
use Rattle.verilog_origins.proofs.items.nth_of.Goals as goal
use Rattle.verilog_origins.proofs.items.nth_of.Goals.{then-row-i+else-left-eq0, else-row-i}

pub loop-i-init : goal.loop-i-init
loop-i-init c =
    nth-all _ _ _ _ _ c.capped-n.ensures

pub bounds-row-i : goal.bounds-row-i
bounds-row-i c =
    omega (arith, capped-kept _ _ c.capped-n.ensures)

pub returns-then-left-eq0 : goal.returns-then-left-eq0
returns-then-left-eq0 c =
    sym (nth-hit _ _ _ _ _ c.loop-i-test.true c.if-row-i.true c.if-left-eq0.true) ∙ c.loop-i.invariant

pub loop-i-preserved : goal.loop-i-preserved
loop-i-preserved c =
    let h = c.loop-i-test.true in
    let inv = c.loop-i.invariant in
    elim c.if-row-i.branch [
      | then-row-i+else-left-eq0 w ↦ nth-pass _ _ _ _ _ h w.if-row-i.true w.if-left-eq0.false _ w.left-is ∙ inv
      | else-row-i w ↦ nth-skip _ _ _ _ _ h w.if-row-i.false _ w.left-is ∙ inv
    ]

pub returns : goal.returns
returns c =
    sym (nth-done _ _ _ _ _ c.loop-i-test.false) ∙ c.loop-i.invariant
