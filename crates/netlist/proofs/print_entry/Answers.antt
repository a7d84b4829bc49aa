-- `netlist::print_entry` meets its contract. Assumes nothing.
use Rattle.writing.specs.Ascii.{ascii}
use Rattle.netlist.specs.Infix.{entry_line}
use Rattle.writing.proofs.Buffer.{both}
use borrow.Author.Rules.{rules}
use Rattle.netlist.proofs.print_entry.Goals as goal

pub returns : goal.returns
unfolding ascii entry_line
returns c =
    both _ _ _ _ _ (both _ _ _ _ _ (both _ _ _ _ _ (both _ _ _ _ _
    c.put_word-p.ensures
    c.put_name-q.ensures)
    c.put_word-w.ensures)
    c.print_node-e.ensures)
    c.put_byte.ensures
