-- `explaining::put_heading` meets its contract. Assumes nothing.
use mathlib.Core.Path.{sym, ap, ◌∙◌}
use Rattle.writing.specs.Ascii.{ascii}
use Rattle.writing.specs.Buffer.{puts}
use Rattle.writing.proofs.Buffer.{both}
use Rattle.explaining.specs.Explaining.{heading_text}
use Rattle.explaining.proofs.Printing.{heading-wait}
use Rattle.explaining.proofs.put_heading.Goals as goal

pub returns-then-k-eq0 : goal.returns-then-k-eq0
unfolding heading_text ascii
returns-then-k-eq0 c =
    rw c.if-k-eq0.true c.put_word.ensures

pub returns : goal.returns
unfolding ascii
returns c =
    both _ _ _ _ _ c.put_word-p.ensures
    (both _ _ _ _ _ c.put_decimal-q.ensures c.put_word-2.ensures)
    ∙ ap (puts _) (sym (heading-wait _ c.if-k-eq0.false))
