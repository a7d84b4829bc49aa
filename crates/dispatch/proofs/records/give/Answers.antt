-- `dispatch::records::give` meets its contract: inside the list one record is written, past it none.
use Rattle.std.proofs.Common.{refl, sym}
use Rattle.dispatch.specs.Dispatch.{given}
use Rattle.dispatch.proofs.Turns.{given-past}
use Rattle.dispatch.proofs.records.give.Goals as goal

pub returns-then-at-records : goal.returns-then-at-records
unfolding given
returns-then-at-records c = refl

pub returns-else-at-records : goal.returns-else-at-records
returns-else-at-records c = sym (given-past _ _ _ c.if-at-records.false)
