-- `walk::put` meets its contract. Assumes nothing.
use mathlib.Core.Path.{sym}
use Rattle.extraction.proofs.Walking.{put-row-past, put-past, put_in}
use borrow.Author.Rules.{rules}
use Rattle.extraction.proofs.walk.put.Goals as goal

pub returns-then-k-ge2 : goal.returns-then-k-ge2
returns-then-k-ge2 c =
    sym (put-row-past _ _ _ _ c.if-k-ge2.true)

pub returns-then-r-ge32 : goal.returns-then-r-ge32
returns-then-r-ge32 c =
    sym (put-past _ _ _ _ c.if-k-ge2.false c.if-r-ge32.true)

pub returns : goal.returns
returns c =
    sym (put_in _ _ _ _ c.if-k-ge2.false c.if-r-ge32.false)
