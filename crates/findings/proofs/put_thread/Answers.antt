-- `findings::put_thread` meets its contract. Assumes nothing.
use borrow.Author.Rules.{rules}
use Rattle.writing.specs.Ascii.{ascii}
use Rattle.writing.proofs.Buffer.{both}
use Rattle.findings.specs.Findings.{thread_words}
use Rattle.findings.proofs.put_thread.Goals as goal

pub returns : goal.returns
unfolding ascii thread_words
returns c =
    both _ _ _ _ _ c.put_word-p.ensures c.put_decimal.ensures
