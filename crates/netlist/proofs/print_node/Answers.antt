-- `netlist::print_node` meets its contract. Assumes nothing.
use Rattle.netlist.specs.Infix.{infix_text}
use borrow.Author.Rules.{rules}
use Rattle.netlist.proofs.print_node.Goals as goal

pub returns : goal.returns
unfolding infix_text
returns c =
    c.print_operand.ensures
