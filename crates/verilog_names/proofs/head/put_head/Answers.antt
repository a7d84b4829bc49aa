-- `verilog_names::head::put_head` meets its contract: four counts and three lists of widths, one behind the other. Assumes nothing.
use mathlib.Core.Path.{◌∙◌}
use Rattle.verilog_names.proofs.Chosen.{capped-kept, min-capped}
use Rattle.verilog_names.proofs.Heading.{head-put}
use Rattle.verilog_names.proofs.head.put_head.Goals as goal

pub put_count-a-requires : goal.put_count-a-requires
put_count-a-requires c =
    capped-kept _ _ (c.min-n.ensures ∙ min-capped _)

pub put_count-b-requires : goal.put_count-b-requires
put_count-b-requires c =
    capped-kept _ _ (c.min-n.ensures ∙ min-capped _)

pub put_count-c-requires : goal.put_count-c-requires
put_count-c-requires c =
    capped-kept _ _ (c.min-n.ensures ∙ min-capped _)

pub put_count-d-requires : goal.put_count-d-requires
put_count-d-requires c =
    capped-kept _ _ (c.min-n.ensures ∙ min-capped _)

pub put_widths-e-requires : goal.put_widths-e-requires
put_widths-e-requires c =
    capped-kept _ _ (c.min-n.ensures ∙ min-capped _)

pub put_widths-f-requires : goal.put_widths-f-requires
put_widths-f-requires c =
    capped-kept _ _ (c.min-n.ensures ∙ min-capped _)

pub put_widths-requires : goal.put_widths-requires
put_widths-requires c =
    capped-kept _ _ (c.min-n.ensures ∙ min-capped _)

pub returns : goal.returns
returns c =
    head-put _ _ _ _ (c.min-n.ensures ∙ min-capped _) _ _ _ _ _ _ _ _ c.put_count-a.ensures
    c.put_count-b.ensures c.put_count-c.ensures
    c.put_count-d.ensures c.put_widths-e.ensures c.put_widths-f.ensures
    c.put_widths.ensures
