-- `netlist::dot::print_plain` meets its contract. Assumes nothing.
use Rattle.writing.specs.Ascii.{ascii}
use Rattle.netlist.specs.Dot.{plain_edge}
use Rattle.writing.proofs.Buffer.{both}
use borrow.Author.Rules.{rules}
use Rattle.netlist.proofs.dot.print_plain.Goals as goal

pub returns : goal.returns
unfolding ascii plain_edge
returns c =
    both _ _ _ _ _ c.print_edge-p.ensures c.put_word.ensures
