-- A node's text is made by five functions that call each other; each meets its contract. The measure goes by the node's number, and
-- an operand that is written out has a lesser one. Assumes nothing.
use Prim.Native.Nat.{ℕ, ◌+◌, ◌*◌, ◌<◌}
use borrow.Author.Rules.{rules}
use Rattle.writing.specs.Ascii.{ascii}
use Rattle.writing.proofs.Buffer.{both}
use Rattle.nodes.specs.Cells.{node_of}
use Rattle.netlist.specs.Infix.{node_name, written, own_text}
use Rattle.netlist.proofs.Infix.{operand-late, operand-named, operand-inline, name_by, constant_by, unknown-by}
use Rattle.netlist.proofs.printing.+print_binary_print_branch_print_conditional_print_operand_print_own.Given as goal

abbrev pub decreases-print_binary : goal.decreases-print_binary
decreases-print_binary l = 3 * l.n + 1

abbrev pub decreases-print_branch : goal.decreases-print_branch
decreases-print_branch l = 3 * l.n + 1

abbrev pub decreases-print_conditional : goal.decreases-print_conditional
decreases-print_conditional l = 3 * l.n + 1

abbrev pub decreases-print_operand : goal.decreases-print_operand
decreases-print_operand l = 3 * l.below

abbrev pub decreases-print_own : goal.decreases-print_own
decreases-print_own l = 3 * l.n + 2
