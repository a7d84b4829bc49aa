-- `netlist::print_place` meets its contract. Assumes nothing.
use Rattle.writing.specs.Ascii.{ascii}
use Rattle.netlist.specs.Infix.{place_line}
use Rattle.writing.proofs.Buffer.{both}
use borrow.Author.Rules.{rules}
use Rattle.netlist.proofs.print_place.Goals as goal

pub returns : goal.returns
unfolding ascii place_line
returns c =
    both _ _ _ _ _ (both _ _ _ _ _
    c.put_word-p.ensures
    c.print_node-e.ensures)
    c.put_byte.ensures
