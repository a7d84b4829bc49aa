-- `text::print_action` meets its contract. Assumes nothing.
use Rattle.writing.specs.Ascii.{ascii}
use Rattle.text.specs.Listing.{show_instr}
use Rattle.text.specs.Printing.{action_instr}
use Rattle.writing.proofs.Buffer.{both}
use Rattle.text.proofs.print_action.Goals as goal

pub returns-in-Set : goal.returns-in-Set
unfolding ascii show_instr action_instr
returns-in-Set c =
    rw c.in-Set.is
    (both _ _ _ _ _ c.put_word-p.ensures c.print_fields.ensures)

pub returns-in-Later : goal.returns-in-Later
unfolding ascii show_instr action_instr
returns-in-Later c =
    rw c.in-Later.is
    (both _ _ _ _ _ c.put_word-p-in-Later.ensures c.print_fields-in-Later.ensures)

pub returns-in-Go : goal.returns-in-Go
unfolding ascii show_instr action_instr
returns-in-Go c =
    rw c.in-Go.is
    (both _ _ _ _ _ c.put_word-p-in-Go.ensures c.put_marked.ensures)

pub returns-in-IfNot : goal.returns-in-IfNot
unfolding ascii show_instr action_instr
returns-in-IfNot c =
    rw c.in-IfNot.is
    (both _ _ _ _ _ c.put_word-p-in-IfNot.ensures c.print_fields-in-IfNot.ensures)
