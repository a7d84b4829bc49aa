-- `prepared_cycles::run_to_rest` meets its contract. Assumes nothing.
use mathlib.Core.Path.{ap, ◌∙◌}
use mathlib.Core.Bool.{false}
use Rattle.plan.specs.Plan.{plan_of}
use Rattle.prepared_cycles.specs.Phases.{Moment, state_at}
use Rattle.prepared_cycles.specs.Drives.{Going, going, driven, on_plan, to_rest, arrived}
use Rattle.prepared_cycles.proofs.Going.{laid-out}
use Rattle.prepared_cycles.proofs.run_to_rest.Goals as goal

pub returns : goal.returns
returns c =
    let a = c.args in
    let q = plan_of a.plan.now in
    let z = laid-out q a.st a.user _ _ _ c.slots_of-pending.ensures c.unpack-marks.ensures in
    c.arrived.ensures
    ∙ ap (λ (g : Going Moment). arrived state_at (driven 0 g))
    (c.to_rest-g.ensures ∙ ap (λ (o : Moment). to_rest (on_plan q) a.drawn (going 0 false a.seed o)) z)
