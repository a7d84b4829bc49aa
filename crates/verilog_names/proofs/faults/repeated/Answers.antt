-- `verilog_names::faults::repeated` meets its contract. The loop's invariant: the best so far and what is left give the whole.
-- Assumes nothing.
use mathlib.Core.Path.{sym, ◌∙◌}
use native.Mathlib.Omega.{arith}
use Rattle.verilog_names.proofs.Chosen.{chosen-all, chosen_none}
use Rattle.verilog_names.proofs.AtFault.{lower-kept, lower-least, nearest-few, repeated-turn, repeated-done}
use Rattle.verilog_names.proofs.Marking.{marks-first, marks-next}
use Rattle.verilog_names.proofs.faults.repeated.Goals as goal

pub loop-i-init : goal.loop-i-init
loop-i-init c =
    (omega arith, rw (chosen-all, chosen_none) (lower-least _ _ (nearest-few _ _)), marks-first _ _)

pub repeated_at-again-requires : goal.repeated_at-again-requires
repeated_at-again-requires c =
    record { i_bound = omega (arith, c.requires, c.loop-i-test.true); seen_value = c.loop-i.invariant.2 }

pub see_at-requires : goal.see_at-requires
see_at-requires c =
    omega (arith, c.requires, c.loop-i-test.true)

pub loop-i-preserved : goal.loop-i-preserved
loop-i-preserved c =
    let l = c.loop-i in (
      lower-kept _ _ _ _ c.lower-best.ensures l.invariant.0,
      repeated-turn _ _ _ _ _ _ _ _ _ c.loop-i-test.true c.repeated_at-again.ensures c.lower-best.ensures
          l.invariant.1,
      marks-next _ _ _ _ _ l.invariant.2 c.see_at.ensures,
    )

pub returns : goal.returns
returns c =
    sym (repeated-done _ _ _ _ _ _ _ c.loop-i-test.false c.loop-i.invariant.0) ∙ c.loop-i.invariant.1
