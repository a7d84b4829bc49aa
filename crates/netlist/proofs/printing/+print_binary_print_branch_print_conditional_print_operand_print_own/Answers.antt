-- A node's text is made by five functions that call each other; each meets its contract. The measure goes by the node's number, and
-- an operand that is written out has a lesser one. Assumes nothing.
use Prim.Native.Nat.{ℕ, ◌+◌, ◌*◌, ◌<◌}
use borrow.Author.Rules.{rules}
use Rattle.writing.specs.Ascii.{ascii}
use Rattle.writing.proofs.Buffer.{both}
use Rattle.nodes.specs.Cells.{node_of}
use Rattle.netlist.specs.Infix.{node_name, written, own_text}
use Rattle.netlist.proofs.Infix.{operand-late, operand-named, operand-inline, name_by, constant_by, unknown-by}
use Rattle.netlist.proofs.printing.+print_binary_print_branch_print_conditional_print_operand_print_own.Goals as goal

pub print_binary-returns : goal.print_binary-returns
unfolding written ascii
print_binary-returns t c =
    both _ _ _ _ _ (both _ _ _ _ _ (both _ _ _ _ _ (both _ _ _ _ _
    c.put_byte-p.ensures
    c.print_operand-q.ensures)
    c.put_sign-s.ensures)
    c.print_operand-e.ensures)
    c.put_byte.ensures

pub print_branch-returns : goal.print_branch-returns
unfolding written ascii
print_branch-returns t c =
    both _ _ _ _ _ (both _ _ _ _ _ (both _ _ _ _ _ (both _ _ _ _ _ (both _ _ _ _ _ (both _ _ _ _ _
    c.put_word-p.ensures
    c.print_operand-q.ensures)
    c.put_word-s.ensures)
    c.print_operand-t.ensures)
    c.put_word-u.ensures)
    c.print_operand-e.ensures)
    c.put_byte.ensures

pub print_conditional-returns : goal.print_conditional-returns
unfolding written ascii
print_conditional-returns t c =
    both _ _ _ _ _ (both _ _ _ _ _ (both _ _ _ _ _ (both _ _ _ _ _ (both _ _ _ _ _ (both _ _ _ _ _
    c.put_byte-p.ensures
    c.print_operand-q.ensures)
    c.put_word-s.ensures)
    c.print_operand-t.ensures)
    c.put_word-u.ensures)
    c.print_operand-e.ensures)
    c.put_byte.ensures

pub print_operand-returns-then-below-n : goal.print_operand-returns-then-below-n
unfolding node_name
print_operand-returns-then-below-n t c =
    let a = c.args in
    rw (operand-late a.names.now a.nodes.now a.uses.now a.below a.n c.if-below-n.true) c.put_marked.ensures

pub print_operand-returns-then-is_named : goal.print_operand-returns-then-is_named
unfolding node_name
print_operand-returns-then-is_named t c =
    let a = c.args in
    rw (operand-named a.names.now a.nodes.now a.uses.now a.below a.n c.if-below-n.false c.is_named.ensures c.if-is_named.true)
    c.put_marked-then-is_named.ensures

pub print_operand-returns : goal.print_operand-returns
print_operand-returns t c =
    let a = c.args in
    rw (operand-inline a.names.now a.nodes.now a.uses.now a.below a.n c.if-below-n.false c.is_named.ensures c.if-is_named.false)
    c.print_own.ensures

pub print_own-returns-in-Variable : goal.print_own-returns-in-Variable
unfolding own_text written node_of
print_own-returns-in-Variable t c =
    rw (← c.cell_at-cell.ensures, c.in-Variable.is)
    (name_by _ _ _ _ _ c.put_name.ensures c.wide.ensures)

pub print_own-returns-in-Constant : goal.print_own-returns-in-Constant
unfolding own_text written node_of
print_own-returns-in-Constant t c =
    rw (← c.cell_at-cell.ensures, c.in-Constant.is)
    (constant_by _ _ _ _ _ c.put_constant.ensures c.narrow.ensures)

pub print_own-returns-in-Blank : goal.print_own-returns-in-Blank
unfolding own_text written node_of
print_own-returns-in-Blank t c =
    rw (← c.cell_at-cell.ensures, c.in-Blank.is)
    (unknown-by _ _ _ _ c.put_unknown.ensures c.narrow-in-Blank.ensures)

pub print_own-returns-in-Unary : goal.print_own-returns-in-Unary
unfolding own_text written node_of
print_own-returns-in-Unary t c =
    rw (← c.cell_at-cell.ensures, c.in-Unary.is)
    (both _ _ _ _ _ c.put_sign-p.ensures c.print_operand.ensures)

pub print_own-returns-in-Binary : goal.print_own-returns-in-Binary
unfolding own_text node_of
print_own-returns-in-Binary t c =
    rw (← c.cell_at-cell.ensures, c.in-Binary.is)
    c.print_binary.ensures

pub print_own-returns-in-Conditional : goal.print_own-returns-in-Conditional
unfolding own_text node_of
print_own-returns-in-Conditional t c =
    rw (← c.cell_at-cell.ensures, c.in-Conditional.is)
    c.print_conditional.ensures

pub print_own-returns-in-Branch : goal.print_own-returns-in-Branch
unfolding own_text node_of
print_own-returns-in-Branch t c =
    rw (← c.cell_at-cell.ensures, c.in-Branch.is)
    c.print_branch.ensures
