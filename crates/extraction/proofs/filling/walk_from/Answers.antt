-- `filling::walk_from` meets its contract. Assumes nothing.
use borrow.Author.Tests.{not-true, not-false}
use Rattle.extraction.proofs.Tables.{walk-from-no, walk-from-past, walk-from-row}
use borrow.Author.Rules.{rules}
use Rattle.extraction.proofs.filling.walk_from.Goals as goal

pub returns-then-not-is_wait : goal.returns-then-not-is_wait
returns-then-not-is_wait c =
    walk-from-no _ _ _ _ _ _ _ _ c.fetch-i.ensures c.is_wait.ensures (c.if-not-is_wait.true)

pub returns-then-e-ge32 : goal.returns-then-e-ge32
returns-then-e-ge32 c =
    walk-from-past _ _ _ _ _ _ _ _ c.fetch-i.ensures c.is_wait.ensures (c.if-not-is_wait.false) c.if-e-ge32.true

pub returns : goal.returns
returns c =
    walk-from-row _ _ _ _ _ _ _ _ c.fetch-i.ensures c.is_wait.ensures (c.if-not-is_wait.false) c.if-e-ge32.false
    c.walk_row.ensures
