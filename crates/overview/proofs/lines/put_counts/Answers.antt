-- `overview::lines::put_counts` meets its contract. Assumes nothing.
use borrow.Author.Rules.{rules}
use Rattle.writing.specs.Ascii.{ascii}
use Rattle.writing.proofs.Buffer.{both}
use Rattle.overview.specs.Shown.{counts_line}
use Rattle.overview.proofs.lines.put_counts.Goals as goal

pub returns : goal.returns
unfolding ascii counts_line
returns c =
    both _ _ _ _ _ (both _ _ _ _ _ (both _ _ _ _ _ (both _ _ _ _ _ (both _ _ _ _ _
    c.put_labelled-a.ensures
    c.put_labelled-b.ensures)
    c.put_labelled-c.ensures)
    c.put_labelled-d.ensures)
    c.put_labelled-e.ensures)
    c.put_byte.ensures
