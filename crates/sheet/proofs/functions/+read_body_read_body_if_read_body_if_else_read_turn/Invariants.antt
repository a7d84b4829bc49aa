-- `sheet::functions::read_body` and the functions that read its forms meet their contracts: each way through the code is a
-- law of proofs/Bodies. The measure is twice the levels left, and one more in a form. Assumes nothing.
use Prim.Native.Nat.{◌+◌, ◌*◌}
use Rattle.sheet.proofs.functions.+read_body_read_body_if_read_body_if_else_read_turn.Given as goal

abbrev pub decreases-read_body : goal.decreases-read_body
decreases-read_body l = 2 * l.depth

abbrev pub decreases-read_body_if : goal.decreases-read_body_if
decreases-read_body_if l = 2 * l.depth + 1

abbrev pub decreases-read_body_if_else : goal.decreases-read_body_if_else
decreases-read_body_if_else l = 2 * l.depth + 1

abbrev pub decreases-read_turn : goal.decreases-read_turn
decreases-read_turn l = 2 * l.depth + 1
