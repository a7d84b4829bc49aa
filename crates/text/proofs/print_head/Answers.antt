-- `text::print_head` meets its contract. Assumes nothing.
use Rattle.writing.specs.Ascii.{ascii}
use Rattle.text.specs.Listing.{show_head}
use Rattle.writing.proofs.Buffer.{both}
use Rattle.text.proofs.print_head.Goals as goal

pub returns : goal.returns
unfolding ascii show_head
returns c =
    both _ _ _ _ _ c.put_word-p.ensures
    (both _ _ _ _ _ c.put_marked-q.ensures c.put_byte.ensures)
