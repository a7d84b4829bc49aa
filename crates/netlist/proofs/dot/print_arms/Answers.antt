-- `netlist::dot::print_arms` meets its contract. Assumes nothing.
use Rattle.netlist.specs.Dot.{arms}
use Rattle.writing.proofs.Buffer.{both}
use borrow.Author.Rules.{rules}
use Rattle.netlist.proofs.dot.print_arms.Goals as goal

pub returns : goal.returns
unfolding arms
returns c =
    both _ _ _ _ _ (both _ _ _ _ _
    c.print_lettered-p.ensures
    c.print_lettered-q.ensures)
    c.print_lettered.ensures
