-- A statement fills the table as its definition says, form by form; what is left of the depth falls.
use Prim.Native.Nat.{◌+◌}
use Rattle.pseudocode.proofs.+fill_forever_fill_if_fill_if_else_fill_sequence_fill_stmt_fill_while.Given as goal

abbrev pub decreases-fill_forever : goal.decreases-fill_forever
decreases-fill_forever l = l.depth + l.depth + 1

abbrev pub decreases-fill_if : goal.decreases-fill_if
decreases-fill_if l = l.depth + l.depth + 1

abbrev pub decreases-fill_if_else : goal.decreases-fill_if_else
decreases-fill_if_else l = l.depth + l.depth + 1

abbrev pub decreases-fill_sequence : goal.decreases-fill_sequence
decreases-fill_sequence l = l.depth + l.depth + 1

abbrev pub decreases-fill_stmt : goal.decreases-fill_stmt
decreases-fill_stmt l = l.depth + l.depth

abbrev pub decreases-fill_while : goal.decreases-fill_while
decreases-fill_while l = l.depth + l.depth + 1
