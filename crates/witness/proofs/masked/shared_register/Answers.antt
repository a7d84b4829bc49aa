-- `masked::shared_register` meets its contract. Assumes nothing.
use Rattle.witness.proofs.Ways.{shared-thread, shared-wire}
use borrow.Author.Rules.{rules}
use Rattle.witness.proofs.masked.shared_register.Goals as goal

pub returns-then-j-threads : goal.returns-then-j-threads
returns-then-j-threads c =
    shared-thread _ _ _ _ _ c.wide-registers.ensures c.wide-threads.ensures c.wide.ensures c.first_marked-r.ensures.value c.first_marked-i.ensures.value
    c.first_marked-j.ensures.value c.if-j-threads.true c.a_register.ensures

pub returns : goal.returns
returns c =
    shared-wire _ _ _ _ _ c.wide-registers.ensures c.wide-threads.ensures c.wide.ensures c.first_marked-r.ensures.value c.first_marked-i.ensures.value
    c.first_marked-j.ensures.value c.if-j-threads.false c.wide-wires.ensures c.first_marked-k.ensures.value c.a_wire.ensures
