-- `verilog_names::order::target_of` meets its contract. The loop's invariant: the first from `i` on is the first of all.
-- Assumes nothing.
use mathlib.Core.Path.{refl, sym, ◌∙◌}
use native.Mathlib.Omega.{arith}
use Rattle.verilog_names.proofs.Chosen.{capped-kept, min-capped}
use Rattle.verilog_names.proofs.Ordering.{first-here, first_on, first_done, target-all}
use Rattle.verilog_names.proofs.order.target_of.Goals as goal

pub loop-i-init : goal.loop-i-init
loop-i-init c =
    refl

pub is_target-requires : goal.is_target-requires
is_target-requires c =
    omega (arith, capped-kept _ _ (c.min-n.ensures ∙ min-capped _))

pub returns-then-is_target : goal.returns-then-is_target
returns-then-is_target c =
    sym (first-here _ _ _ c.loop-i-test.true (sym c.is_target.ensures ∙ c.if-is_target.true))
    ∙ c.loop-i.invariant
    ∙ target-all _ _ _ (c.min-n.ensures ∙ min-capped _) _ _

pub loop-i-preserved : goal.loop-i-preserved
loop-i-preserved c =
    sym (first_on _ _ _ c.loop-i-test.true (sym c.is_target.ensures ∙ c.if-is_target.false)) ∙ c.loop-i.invariant

pub returns : goal.returns
returns c =
    sym (first_done _ _ _ c.loop-i-test.false) ∙ c.loop-i.invariant ∙ target-all _ _ _ (c.min-n.ensures ∙ min-capped _) _ _
