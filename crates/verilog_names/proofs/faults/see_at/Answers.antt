-- `verilog_names::faults::see_at` meets its contract. Assumes nothing.
use mathlib.Core.Path.{sym, ◌∙◌}
use Rattle.verilog_names.proofs.Marking.{mark-none, mark-one}
use Rattle.verilog_names.proofs.faults.see_at.Goals as goal

pub returns-then-not-is_in : goal.returns-then-not-is_in
returns-then-not-is_in c =
    mark-none _ _ _ _ (sym c.is_in.ensures ∙ c.if-not-is_in.true)

pub returns : goal.returns
returns c =
    mark-one _ _ _ _ _ (sym c.is_in.ensures ∙ c.if-not-is_in.false) c.enter_id.ensures
