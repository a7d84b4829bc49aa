-- `prepared_cycles::arrived` meets its contract. Assumes nothing.
use Rattle.prepared_cycles.proofs.Driving.{arrived-is}
use Rattle.prepared_cycles.proofs.arrived.Goals as goal

pub returns : goal.returns
returns c =
    arrived-is _ _ _ c.pack-state.ensures
