-- `findings::put_two` meets its contract. Assumes nothing.
use borrow.Author.Rules.{rules}
use Rattle.writing.proofs.Buffer.{both}
use Rattle.findings.proofs.put_two.Goals as goal

pub returns : goal.returns
returns c =
    both _ _ _ _ _ (both _ _ _ _ _ (both _ _ _ _ _ c.put_word-p.ensures
    c.put_decimal-q.ensures) c.put_word-r.ensures)
    c.put_decimal.ensures
