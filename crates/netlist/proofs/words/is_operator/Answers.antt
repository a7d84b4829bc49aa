-- `netlist::words::is_operator` meets its contract, by the kind of node. Assumes nothing.
use Rattle.nodes.specs.Cells.{node_of}
use Rattle.netlist.specs.Cells.{is_operator}
use borrow.Author.Rules.{rules}
use Rattle.netlist.proofs.words.is_operator.Goals as goal

pub returns-in-Variable : goal.returns-in-Variable
unfolding is_operator node_of
returns-in-Variable c =
    search rules

pub returns-in-Constant : goal.returns-in-Constant
unfolding is_operator node_of
returns-in-Constant c =
    search rules

pub returns-in-Blank : goal.returns-in-Blank
unfolding is_operator node_of
returns-in-Blank c =
    search rules

pub returns-in-Unary : goal.returns-in-Unary
unfolding is_operator node_of
returns-in-Unary c =
    search rules

pub returns-in-Binary : goal.returns-in-Binary
unfolding is_operator node_of
returns-in-Binary c =
    search rules

pub returns-in-Conditional : goal.returns-in-Conditional
unfolding is_operator node_of
returns-in-Conditional c =
    search rules

pub returns-in-Branch : goal.returns-in-Branch
unfolding is_operator node_of
returns-in-Branch c =
    search rules
