-- `prepared::start` meets its contract. Assumes nothing.
use mathlib.Core.Path.{refl}
use Rattle.events.specs.Calls.{started}
use Rattle.prepared.specs.Prepared.{start_at}
use Rattle.prepared.proofs.start.Goals as goal

pub returns : goal.returns
unfolding start_at started
returns c =
    rw (c.due_below.ensures, c.wires.ensures, c.unset_marks.ensures) refl
