-- `trace_row::row_of` meets its contract. Assumes nothing.
use Rattle.trace_row.proofs.TraceRow.{row-past, row-short, row-whole}
use borrow.Author.Rules.{rules}
use Rattle.trace_row.proofs.row_of.Goals as goal

pub returns-then-n-r : goal.returns-then-n-r
returns-then-n-r c =
    row-past _ _ c.if-n-r.true

pub returns-then-n-from-lt88 : goal.returns-then-n-from-lt88
returns-then-n-from-lt88 c =
    row-short _ _ c.if-n-from-lt88.true

pub returns : goal.returns
returns c =
    row-whole _ _
