-- `findings::put_clock` meets its contract, row by row. Assumes nothing.
use borrow.Author.Rules.{rules}
use Rattle.writing.specs.Ascii.{ascii}
use Rattle.writing.proofs.Buffer.{both}
use Rattle.findings.specs.Findings.{clock_words}
use Rattle.findings.proofs.put_clock.Goals as goal

pub returns-then-w : goal.returns-then-w
unfolding ascii clock_words
returns-then-w c =
    rw c.if-w.true
    (both _ _ _ _ _ (both _ _ _ _ _ c.put_word-p.ensures
    c.put_decimal-q.ensures) c.put_word.ensures)

pub returns : goal.returns
unfolding ascii clock_words
returns c =
    rw c.if-w.false c.put_two.ensures
