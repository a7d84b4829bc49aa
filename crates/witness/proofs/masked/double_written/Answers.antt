-- `masked::double_written` meets its contract. Assumes nothing.
use Rattle.witness.proofs.Ways.{double-way}
use borrow.Author.Rules.{rules}
use Rattle.witness.proofs.masked.double_written.Goals as goal

pub returns : goal.returns
returns c =
    double-way _ _ _ _ _ c.wide-registers.ensures c.wide-threads.ensures c.first_marked-r.ensures.value c.first_marked-i.ensures.value c.first_marked-j.ensures.value
    c.a_register.ensures
