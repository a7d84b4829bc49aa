-- `filling::walk_row` meets its contract. Assumes nothing.
use Rattle.extraction.proofs.Tables.{walk-row-path}
use borrow.Author.Rules.{rules}
use Rattle.extraction.proofs.filling.walk_row.Goals as goal

pub returns : goal.returns
returns c =
    walk-row-path _ _ _ _ _ _ _ _ c.own_row-own.ensures c.after.ensures c.walk-w.ensures c.put_row.ensures
