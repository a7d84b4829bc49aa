-- `comparison::saying::put_variable` meets its contract. Assumes nothing.
use mathlib.Core.Path.{sym}
use Rattle.writing.specs.Ascii.{ascii}
use Rattle.writing.proofs.Buffer.{both}
use Rattle.comparison.specs.Saying.{variable_line}
use Rattle.comparison.proofs.saying.put_variable.Goals as goal

pub returns : goal.returns
unfolding ascii variable_line
returns c =
    rw (sym c.byte_at-width.ensures)
    (both _ _ _ _ _ (both _ _ _ _ _ (both _ _ _ _ _ (both _ _ _ _ _ (both _ _ _ _ _ (both _ _ _ _ _
    c.put_name-p.ensures
    c.put_word-q.ensures)
    c.put_shown-r.ensures)
    c.put_order-s.ensures)
    c.put_word-t.ensures)
    c.put_shown-u.ensures)
    c.put_word.ensures)
