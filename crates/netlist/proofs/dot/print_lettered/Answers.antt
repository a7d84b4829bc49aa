-- `netlist::dot::print_lettered` meets its contract. Assumes nothing.
use Rattle.writing.specs.Ascii.{ascii}
use Rattle.netlist.specs.Dot.{lettered_edge}
use Rattle.writing.proofs.Buffer.{both}
use borrow.Author.Rules.{rules}
use Rattle.netlist.proofs.dot.print_lettered.Goals as goal

pub returns : goal.returns
unfolding ascii lettered_edge
returns c =
    both _ _ _ _ _ (both _ _ _ _ _ (both _ _ _ _ _
    c.print_edge-p.ensures
    c.put_word-q.ensures)
    c.put_byte-w.ensures)
    c.put_word.ensures
