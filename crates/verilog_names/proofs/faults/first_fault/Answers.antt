-- `verilog_names::faults::first_fault` meets its contract: the lowest of the five kinds of faults. Assumes nothing.
use mathlib.Core.Path.{◌∙◌}
use Rattle.verilog_names.proofs.Chosen.{capped-kept, min-capped}
use Rattle.verilog_names.proofs.AtFault.{fault-all}
use Rattle.verilog_names.proofs.faults.first_fault.Goals as goal

pub missing-a-requires : goal.missing-a-requires
missing-a-requires c =
    capped-kept _ _ (c.min-n.ensures ∙ min-capped _)

pub repeated-b-requires : goal.repeated-b-requires
repeated-b-requires c =
    capped-kept _ _ (c.min-n.ensures ∙ min-capped _)

pub missing-c-requires : goal.missing-c-requires
missing-c-requires c =
    capped-kept _ _ (c.min-n.ensures ∙ min-capped _)

pub repeated-d-requires : goal.repeated-d-requires
repeated-d-requires c =
    capped-kept _ _ (c.min-n.ensures ∙ min-capped _)

pub missing-e-requires : goal.missing-e-requires
missing-e-requires c =
    capped-kept _ _ (c.min-n.ensures ∙ min-capped _)

pub returns : goal.returns
returns c =
    let faults = c.missing-e in
    fault-all _ _ _ _ _ _ _ _ _ _ _ _ _ _ _ (c.min-n.ensures ∙ min-capped _) c.missing-a.ensures
    c.repeated-b.ensures c.missing-c.ensures
    c.repeated-d.ensures faults.ensures c.lower.ensures c.lower-2.ensures
    c.lower-3.ensures c.lower-place.ensures
