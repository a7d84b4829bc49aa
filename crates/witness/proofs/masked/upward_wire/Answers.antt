-- `masked::upward_wire` meets its contract. Assumes nothing.
use Rattle.witness.proofs.Ways.{upward-way}
use borrow.Author.Rules.{rules}
use Rattle.witness.proofs.masked.upward_wire.Goals as goal

pub returns : goal.returns
returns c =
    upward-way _ _ _ _ _ c.wide-wires.ensures c.first_marked-k.ensures.value c.first_marked-j.ensures.value c.a_wire.ensures
