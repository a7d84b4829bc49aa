-- `text::print_instruction` meets its contract. Assumes nothing.
use Rattle.writing.specs.Ascii.{ascii}
use Rattle.text.specs.Listing.{show_instr}
use Rattle.text.specs.Printing.{instr_of}
use Rattle.writing.proofs.Buffer.{both}
use Rattle.text.proofs.print_instruction.Goals as goal

pub returns-in-Wait : goal.returns-in-Wait
unfolding ascii show_instr instr_of
returns-in-Wait c =
    rw c.in-Wait.is
    (both _ _ _ _ _ c.put_word-p.ensures c.print_terms.ensures)

pub returns-in-Act : goal.returns-in-Act
unfolding instr_of
returns-in-Act c =
    rw c.in-Act.is c.print_action.ensures
