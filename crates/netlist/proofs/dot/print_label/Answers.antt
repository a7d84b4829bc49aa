-- `netlist::dot::print_label` meets its contract, by the kind of node. Assumes nothing.
use Rattle.writing.specs.Ascii.{ascii}
use Rattle.nodes.specs.Cells.{node_of}
use Rattle.netlist.specs.Dot.{label}
use Rattle.netlist.proofs.Infix.{name_by, constant_by, unknown-by}
use borrow.Author.Rules.{rules}
use Rattle.netlist.proofs.dot.print_label.Goals as goal

pub returns-in-Variable : goal.returns-in-Variable
unfolding label node_of
returns-in-Variable c =
    rw c.in-Variable.is (name_by _ _ _ _ _ c.put_name.ensures c.wide.ensures)

pub returns-in-Constant : goal.returns-in-Constant
unfolding label node_of
returns-in-Constant c =
    rw c.in-Constant.is (constant_by _ _ _ _ _ c.put_constant.ensures c.narrow.ensures)

pub returns-in-Blank : goal.returns-in-Blank
unfolding label node_of
returns-in-Blank c =
    rw c.in-Blank.is (unknown-by _ _ _ _ c.put_unknown.ensures c.narrow-in-Blank.ensures)

pub returns-in-Unary : goal.returns-in-Unary
unfolding label node_of
returns-in-Unary c =
    rw c.in-Unary.is c.print_sign.ensures

pub returns-in-Binary : goal.returns-in-Binary
unfolding label node_of
returns-in-Binary c =
    rw c.in-Binary.is c.print_sign-in-Binary.ensures

pub returns-in-Conditional : goal.returns-in-Conditional
unfolding ascii label node_of
returns-in-Conditional c =
    rw c.in-Conditional.is c.put_word.ensures

pub returns-in-Branch : goal.returns-in-Branch
unfolding ascii label node_of
returns-in-Branch c =
    rw c.in-Branch.is c.put_word-in-Branch.ensures
