-- `overview::lines::put_sizes` meets its contract. Assumes nothing.
use borrow.Author.Rules.{rules}
use Rattle.writing.specs.Ascii.{ascii}
use Rattle.writing.proofs.Buffer.{both}
use Rattle.overview.specs.Shown.{sizes_line}
use Rattle.overview.proofs.lines.put_sizes.Goals as goal

pub returns : goal.returns
unfolding ascii sizes_line
returns c =
    both _ _ _ _ _ (both _ _ _ _ _ c.put_labelled-a.ensures c.put_labelled-b.ensures) c.put_byte.ensures
