-- `plan_fill::fill` meets its contract. Assumes nothing.
use mathlib.Core.Path.{◌∙◌}
use Rattle.tables.proofs.Readers.{min-at_most}
use Rattle.plan_fill.specs.Filling.{filling, fill_wire, with_wires, with_threads, code_of}
use Rattle.plan_fill.proofs.Filling.{up-end, plan-filled}
use Rattle.plan_fill.proofs.fill.Goals as goal

pub returns : goal.returns
unfolding with_wires with_threads code_of
returns c =
    let a = c.args in
    plan-filled a.sheet.now a.layout a.plan.now c.compile-sizes.ensures.code_after c.compile-sizes.ensures.value
    (c.min-threads.ensures ∙ min-at_most _ _)
    (c.fill_watchers.ensures ∙ rw (c.fill_readers.ensures, c.fill_widths.ensures, c.fill_counts.ensures))
    c.fill_sizes.ensures
    (up-end (fill_wire a.sheet.now a.layout.starts) (filling 80 _) c.fill_wires-free.ensures
    (c.min.ensures ∙ min-at_most _ _))
    c.fill_threads.ensures
