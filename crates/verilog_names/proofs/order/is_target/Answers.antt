-- `verilog_names::order::is_target` meets its contract. Assumes nothing.
use mathlib.Core.Path.{sym, ◌∙◌}
use Rattle.verilog_names.proofs.Ordering.{target-in, target-out}
use Rattle.verilog_names.proofs.order.is_target.Goals as goal

pub returns-then-has_role : goal.returns-then-has_role
returns-then-has_role c =
    target-in _ _ _ _ (sym c.has_role.ensures ∙ c.if-has_role.true)

pub returns-else-has_role : goal.returns-else-has_role
returns-else-has_role c =
    c.if-has_role.false ∙ target-out _ _ _ _ (sym c.has_role.ensures ∙ c.if-has_role.false)
