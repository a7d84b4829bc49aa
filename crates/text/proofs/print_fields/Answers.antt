-- `text::print_fields` meets its contract. Assumes nothing.
use Rattle.text.specs.Printing.{text_at}
use Rattle.writing.proofs.Buffer.{both}
use Rattle.text.proofs.print_fields.Goals as goal

pub returns : goal.returns
unfolding text_at
returns c =
    both _ _ _ _ _ c.put_marked-p.ensures
    (both _ _ _ _ _ c.put_byte-q.ensures c.print_expr-e.ensures.bytes)
