-- `plan_engine::register_of` meets its contract. Assumes nothing.
use Rattle.plan_engine.proofs.register_of.Goals as goal

pub returns : goal.returns
returns c =
    rw (c.saturating_sub.ensures, c.inputs.ensures)
