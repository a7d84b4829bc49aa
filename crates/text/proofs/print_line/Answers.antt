-- `text::print_line` meets its contract. Assumes nothing.
use Rattle.text.specs.Listing.{show_line}
use Rattle.writing.proofs.Buffer.{both}
use Rattle.text.proofs.print_line.Goals as goal

pub returns : goal.returns
unfolding show_line
returns c =
    both _ _ _ _ _ c.put_decimal-p.ensures
    (both _ _ _ _ _ c.put_marked-q.ensures
    (both _ _ _ _ _ c.put_byte-w.ensures
    (both _ _ _ _ _ c.print_instruction-e.ensures c.put_byte.ensures)))
