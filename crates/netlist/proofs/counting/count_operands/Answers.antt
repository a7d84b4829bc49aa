-- `netlist::counting::count_operands` meets its contract, by the kind of node. Assumes nothing.
use Rattle.nodes.specs.Cells.{node_of}
use Rattle.netlist.specs.Uses.{operands_of, all_counted}
use Rattle.netlist.proofs.Uses.{count-two, count-three}
use borrow.Author.Rules.{rules}
use Rattle.netlist.proofs.counting.count_operands.Goals as goal

pub returns-in-Variable : goal.returns-in-Variable
unfolding operands_of all_counted node_of
returns-in-Variable c =
    search rules

pub returns-in-Constant : goal.returns-in-Constant
unfolding operands_of all_counted node_of
returns-in-Constant c =
    search rules

pub returns-in-Blank : goal.returns-in-Blank
unfolding operands_of all_counted node_of
returns-in-Blank c =
    search rules

pub returns-in-Unary : goal.returns-in-Unary
unfolding operands_of all_counted node_of
returns-in-Unary c =
    rw c.in-Unary.is c.count_use.ensures

pub returns-in-Binary : goal.returns-in-Binary
unfolding operands_of node_of
returns-in-Binary c =
    rw c.in-Binary.is (count-two _ _ _ _ _ c.count_use-in-Binary.ensures c.count_use-in-Binary-2.ensures)

pub returns-in-Conditional : goal.returns-in-Conditional
unfolding operands_of node_of
returns-in-Conditional c =
    rw c.in-Conditional.is
    (count-three _ _ _ _ _ _ _ c.count_use-in-Conditional.ensures c.count_use-in-Conditional-2.ensures c.count_use-in-Conditional-3.ensures)

pub returns-in-Branch : goal.returns-in-Branch
unfolding operands_of node_of
returns-in-Branch c =
    rw c.in-Branch.is
    (count-three _ _ _ _ _ _ _ c.count_use-in-Branch.ensures c.count_use-in-Branch-2.ensures c.count_use-in-Branch-3.ensures)
