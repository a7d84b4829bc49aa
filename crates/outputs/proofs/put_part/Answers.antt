-- `outputs::put_part` meets its contract. Assumes nothing.
use Rattle.writing.specs.Ascii.{ascii}
use Rattle.writing.proofs.Buffer.{both}
use Rattle.outputs.specs.Outputs.{part_name}
use Rattle.outputs.proofs.put_part.Goals as goal

pub returns : goal.returns
unfolding ascii part_name
returns c =
    both _ _ _ _ _ (both _ _ _ _ _ (both _ _ _ _ _ c.put_word-a.ensures
    c.put_byte-b.ensures) c.put_word-c.ensures)
    c.put_word.ensures
