-- `verilog_names::faults::missing` meets its contract. The loop's invariant: the best so far and what is left give the whole.
-- Assumes nothing.
use mathlib.Core.Path.{sym, ◌∙◌}
use native.Mathlib.Omega.{arith}
use Rattle.verilog_names.proofs.Chosen.{chosen-all}
use Rattle.verilog_names.proofs.AtFault.{lower-kept, lower-least, nearest-few, missing-turn, missing-done}
use Rattle.verilog_names.proofs.Marking.{lacks-place}
use Rattle.verilog_names.proofs.faults.missing.Goals as goal

pub loop-i-init : goal.loop-i-init
loop-i-init c =
    (omega arith, rw chosen-all (lower-least _ _ (nearest-few _ _)))

pub missing_at-requires : goal.missing_at-requires
missing_at-requires c =
    omega (arith, c.requires, c.loop-i-test.true)

pub loop-i-preserved : goal.loop-i-preserved
loop-i-preserved c =
    let l = c.loop-i in
    let found = lacks-place _ _ _ _ _ _ _ c.is_missing-gone.ensures c.missing_at.ensures.0
    c.missing_at.ensures.1 in (
      lower-kept _ _ _ _ c.lower-best.ensures l.invariant.0,
      missing-turn _ _ _ _ _ _ _ _ _ _ c.loop-i-test.true found c.lower-best.ensures l.invariant.1,
    )

pub returns : goal.returns
returns c =
    sym (missing-done _ _ _ _ _ _ _ c.loop-i-test.false c.loop-i.invariant.0) ∙ c.loop-i.invariant.1
