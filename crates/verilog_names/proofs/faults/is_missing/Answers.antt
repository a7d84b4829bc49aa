-- `verilog_names::faults::is_missing` meets its contract. Assumes nothing.
use mathlib.Core.Path.{sym, ◌∙◌}
use Rattle.verilog_names.proofs.Marking.{lacks-out, lacks-in}
use Rattle.verilog_names.proofs.faults.is_missing.Goals as goal

pub returns-then-is_in : goal.returns-then-is_in
returns-then-is_in c =
    lacks-in _ _ _ _ _ (sym c.is_in.ensures ∙ c.if-is_in.true) c.is_seen.ensures

pub returns-else-is_in : goal.returns-else-is_in
returns-else-is_in c =
    c.if-is_in.false ∙ lacks-out _ _ _ _ (sym c.is_in.ensures ∙ c.if-is_in.false)
