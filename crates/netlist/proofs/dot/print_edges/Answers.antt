-- `netlist::dot::print_edges` meets its contract, by the kind of node. Assumes nothing.
use mathlib.Core.Path.{sym}
use Rattle.nodes.specs.Cells.{node_of}
use Rattle.netlist.specs.Dot.{edges}
use Rattle.writing.proofs.Buffer.{both, puts-nil}
use borrow.Author.Rules.{rules}
use Rattle.netlist.proofs.dot.print_edges.Goals as goal

pub returns-in-Variable : goal.returns-in-Variable
unfolding edges node_of
returns-in-Variable c =
    rw c.in-Variable.is (sym (puts-nil _))

pub returns-in-Constant : goal.returns-in-Constant
unfolding edges node_of
returns-in-Constant c =
    rw c.in-Constant.is (sym (puts-nil _))

pub returns-in-Blank : goal.returns-in-Blank
unfolding edges node_of
returns-in-Blank c =
    rw c.in-Blank.is (sym (puts-nil _))

pub returns-in-Unary : goal.returns-in-Unary
unfolding edges node_of
returns-in-Unary c =
    rw c.in-Unary.is c.print_plain.ensures

pub returns-in-Binary : goal.returns-in-Binary
unfolding edges node_of
returns-in-Binary c =
    rw c.in-Binary.is (both _ _ _ _ _ c.print_plain-p.ensures c.print_plain-in-Binary.ensures)

pub returns-in-Conditional : goal.returns-in-Conditional
unfolding edges node_of
returns-in-Conditional c =
    rw c.in-Conditional.is c.print_arms.ensures

pub returns-in-Branch : goal.returns-in-Branch
unfolding edges node_of
returns-in-Branch c =
    rw c.in-Branch.is c.print_arms-in-Branch.ensures
