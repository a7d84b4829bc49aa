-- `explaining::put_wait` meets its contract. Assumes nothing.
use Rattle.writing.specs.Ascii.{ascii}
use Rattle.explaining.proofs.Printing.{wait-path}
use Rattle.explaining.proofs.put_wait.Goals as goal

pub returns : goal.returns
unfolding ascii
returns c =
    wait-path _ _ _ _ _ _ c.byte_at-n.ensures
    c.put_indent-p.ensures c.put_word-q.ensures
    c.put_terms-w.ensures c.put_word-x.ensures
    c.put_decimal-y.ensures
    c.put_word.ensures
