-- `sheet::stmt::read_stmt` and the functions that read its forms meet their contracts: each way through the code is a
-- law of proofs/Forms, and a size fits since a statement has fewer instructions than bytes. The measure is twice the
-- levels left, and one more in a form. Assumes nothing.
use Prim.Native.Nat.{◌+◌, ◌*◌}
use Rattle.sheet.proofs.stmt.+read_forever_read_if_read_if_else_read_sequence_read_stmt_read_while.Given as goal

abbrev pub decreases-read_forever : goal.decreases-read_forever
decreases-read_forever l = 2 * l.depth + 1

abbrev pub decreases-read_if : goal.decreases-read_if
decreases-read_if l = 2 * l.depth + 1

abbrev pub decreases-read_if_else : goal.decreases-read_if_else
decreases-read_if_else l = 2 * l.depth + 1

abbrev pub decreases-read_sequence : goal.decreases-read_sequence
decreases-read_sequence l = 2 * l.depth + 1

abbrev pub decreases-read_stmt : goal.decreases-read_stmt
decreases-read_stmt l = 2 * l.depth

abbrev pub decreases-read_while : goal.decreases-read_while
decreases-read_while l = 2 * l.depth + 1
