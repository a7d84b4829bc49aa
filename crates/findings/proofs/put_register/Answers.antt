-- `findings::put_register` meets its contract. Assumes nothing.
use borrow.Author.Rules.{rules}
use Rattle.writing.specs.Ascii.{ascii}
use Rattle.writing.proofs.Buffer.{both}
use Rattle.findings.specs.Findings.{register_words}
use Rattle.findings.proofs.put_register.Goals as goal

pub returns : goal.returns
unfolding ascii register_words
returns c =
    both _ _ _ _ _ (both _ _ _ _ _ (both _ _ _ _ _ c.put_word-p.ensures
    c.put_decimal-q.ensures) c.put_word-r.ensures)
    c.put_other.ensures
