-- `verilog_names::head::put_width` meets its contract. Assumes nothing.
use mathlib.Core.Path.{sym, ◌∙◌}
use Rattle.verilog_names.proofs.Heading.{width-in, width-out}
use Rattle.verilog_names.proofs.head.put_width.Goals as goal

pub returns-then-has_role : goal.returns-then-has_role
returns-then-has_role c =
    width-in _ _ _ _ _ (sym c.has_role.ensures ∙ c.if-has_role.true) c.put_byte.ensures

pub returns : goal.returns
returns c =
    width-out _ _ _ _ (sym c.has_role.ensures ∙ c.if-has_role.false)
