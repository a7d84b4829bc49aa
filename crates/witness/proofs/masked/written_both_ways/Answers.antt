-- `masked::written_both_ways` meets its contract. Assumes nothing.
use Rattle.witness.proofs.Ways.{both-way}
use borrow.Author.Rules.{rules}
use Rattle.witness.proofs.masked.written_both_ways.Goals as goal

pub returns : goal.returns
returns c =
    both-way _ _ _ _ _ c.wide-registers.ensures c.wide-threads.ensures c.first_marked-r.ensures.value c.first_marked-i.ensures.value c.first_marked-j.ensures.value
    c.a_register.ensures
