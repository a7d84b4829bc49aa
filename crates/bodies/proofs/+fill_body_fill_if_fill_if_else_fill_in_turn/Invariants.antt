-- A statement of a body fills the table as its definition says, form by form; what is left of the depth falls. Assumes nothing.
use Prim.Native.Nat.{◌+◌}
use Rattle.bodies.proofs.+fill_body_fill_if_fill_if_else_fill_in_turn.Given as goal

abbrev pub decreases-fill_body : goal.decreases-fill_body
decreases-fill_body l = l.depth + l.depth

abbrev pub decreases-fill_if : goal.decreases-fill_if
decreases-fill_if l = l.depth + l.depth + 1

abbrev pub decreases-fill_if_else : goal.decreases-fill_if_else
decreases-fill_if_else l = l.depth + l.depth + 1

abbrev pub decreases-fill_in_turn : goal.decreases-fill_in_turn
decreases-fill_in_turn l = l.depth + l.depth + 1
