-- `netlist::print_definition` meets its contract. Assumes nothing.
use Rattle.writing.specs.Ascii.{ascii}
use Rattle.netlist.specs.Infix.{node_name, node_line}
use Rattle.writing.proofs.Buffer.{both}
use borrow.Author.Rules.{rules}
use Rattle.netlist.proofs.print_definition.Goals as goal

pub returns : goal.returns
unfolding ascii node_name node_line
returns c =
    both _ _ _ _ _ (both _ _ _ _ _ (both _ _ _ _ _
    c.put_marked-p.ensures
    c.put_word-q.ensures)
    c.print_own-e.ensures)
    c.put_byte.ensures
