-- `named_findings::put_clock` meets its contract, row by row. Assumes nothing.
use borrow.Author.Rules.{rules}
use Rattle.writing.specs.Ascii.{ascii}
use Rattle.writing.proofs.Buffer.{both}
use Rattle.named_findings.specs.Findings.{clock_words}
use Rattle.named_findings.proofs.put_clock.Goals as goal

pub returns-then-w : goal.returns-then-w
unfolding ascii clock_words
returns-then-w c =
    rw c.if-w.true
    (both _ _ _ _ _
    (rw c.variable-v.ensures at c.put_named-p.ensures)
    c.put_named.ensures)

pub returns : goal.returns
unfolding ascii clock_words
returns c =
    rw c.if-w.false
    (both _ _ _ _ _
    (both _ _ _ _ _ c.put_counted-p.ensures
    c.put_named-q.ensures) c.put_counted.ensures)
