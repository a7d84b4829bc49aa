-- `verilog_names::order::next_of` meets its contract. The loop's invariant: the first from `i` on is the first of all.
-- Assumes nothing.
use mathlib.Core.Path.{refl, sym, ◌∙◌}
use native.Mathlib.Omega.{arith}
use Rattle.verilog_names.proofs.Chosen.{capped-kept, min-capped}
use Rattle.verilog_names.proofs.Ordering.{first-here, first_on, first_done, next-all}
use Rattle.verilog_names.proofs.order.next_of.Goals as goal

pub loop-i-init : goal.loop-i-init
loop-i-init c =
    refl

pub has_role-requires : goal.has_role-requires
has_role-requires c =
    omega (arith, capped-kept _ _ (c.min-n.ensures ∙ min-capped _))

pub returns-then-has_role : goal.returns-then-has_role
returns-then-has_role c =
    sym (first-here _ _ _ c.loop-i-test.true (sym c.has_role.ensures ∙ c.if-has_role.true))
    ∙ c.loop-i.invariant
    ∙ next-all _ _ _ (c.min-n.ensures ∙ min-capped _) _ _

pub loop-i-preserved : goal.loop-i-preserved
loop-i-preserved c =
    sym (first_on _ _ _ c.loop-i-test.true (sym c.has_role.ensures ∙ c.if-has_role.false)) ∙ c.loop-i.invariant

pub returns : goal.returns
returns c =
    sym (first_done _ _ _ c.loop-i-test.false) ∙ c.loop-i.invariant ∙ next-all _ _ _ (c.min-n.ensures ∙ min-capped _) _ _
