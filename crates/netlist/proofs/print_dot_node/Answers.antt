-- `netlist::print_dot_node` meets its contract. Assumes nothing.
use Rattle.writing.specs.Ascii.{ascii}
use Rattle.netlist.specs.Infix.{node_name}
use Rattle.netlist.specs.Dot.{dot_node}
use Rattle.writing.proofs.Buffer.{both}
use borrow.Author.Rules.{rules}
use Rattle.netlist.proofs.print_dot_node.Goals as goal

pub returns : goal.returns
unfolding ascii node_name dot_node
returns c =
    rw (← c.cell_at-cell.ensures)
    (both _ _ _ _ _ (both _ _ _ _ _ (both _ _ _ _ _ (both _ _ _ _ _ (both _ _ _ _ _
    c.put_word-p.ensures
    c.put_marked-q.ensures)
    c.put_word-w.ensures)
    c.print_label-l.ensures)
    c.put_word-e.ensures)
    c.print_edges.ensures)
