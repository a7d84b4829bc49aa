-- `verilog_names::faults::is_such` meets its contract. Assumes nothing.
use mathlib.Core.Path.{sym, ◌∙◌}
use Rattle.verilog_names.proofs.AtFault.{among_in, among-out}
use Rattle.verilog_names.proofs.faults.is_such.Goals as goal

pub returns-then-is_in : goal.returns-then-is_in
returns-then-is_in c =
    among_in _ _ _ _ (sym c.is_in.ensures ∙ c.if-is_in.true)

pub returns-else-is_in : goal.returns-else-is_in
returns-else-is_in c =
    c.if-is_in.false ∙ among-out _ _ _ _ (sym c.is_in.ensures ∙ c.if-is_in.false)
