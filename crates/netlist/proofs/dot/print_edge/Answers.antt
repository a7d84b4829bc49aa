-- `netlist::dot::print_edge` meets its contract. Assumes nothing.
use Rattle.writing.specs.Ascii.{ascii}
use Rattle.netlist.specs.Infix.{node_name}
use Rattle.netlist.specs.Dot.{edge}
use Rattle.writing.proofs.Buffer.{both}
use borrow.Author.Rules.{rules}
use Rattle.netlist.proofs.dot.print_edge.Goals as goal

pub returns : goal.returns
unfolding ascii node_name edge
returns c =
    both _ _ _ _ _ (both _ _ _ _ _ (both _ _ _ _ _
    c.put_word-p.ensures
    c.put_marked-q.ensures)
    c.put_word-w.ensures)
    c.put_marked.ensures
