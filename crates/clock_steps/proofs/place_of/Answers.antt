-- `clock_steps::place_of` meets its contract. Assumes nothing.
use Rattle.clock_steps.proofs.place_of.Goals as goal

pub returns : goal.returns
returns c =
    rw (c.number_of.ensures, c.load.ensures)
