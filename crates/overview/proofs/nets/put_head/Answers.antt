-- `overview::nets::put_head` meets its contract. Assumes nothing.
use borrow.Author.Rules.{rules}
use Rattle.writing.specs.Ascii.{ascii}
use Rattle.writing.proofs.Buffer.{both}
use Rattle.overview.specs.Shown.{head_line}
use Rattle.overview.proofs.nets.put_head.Goals as goal

pub returns : goal.returns
unfolding ascii head_line
returns c =
    both _ _ _ _ _ (both _ _ _ _ _ c.put_labelled-a.ensures c.put_labelled-b.ensures) c.put_word.ensures
