-- A statement is walked over as its definition says, form by form; what is left of the depth falls. Assumes nothing.
use Prim.Native.Nat.{◌+◌, ◌*◌}
use Rattle.explaining.proofs.+walk_walk_forever_walk_if_walk_if_else_walk_sequence_walk_while.Given as goal

abbrev pub decreases-walk : goal.decreases-walk
decreases-walk l = l.depth * 4

abbrev pub decreases-walk_forever : goal.decreases-walk_forever
decreases-walk_forever l = l.depth * 4 + 1

abbrev pub decreases-walk_if : goal.decreases-walk_if
decreases-walk_if l = l.depth * 4 + 1

abbrev pub decreases-walk_if_else : goal.decreases-walk_if_else
decreases-walk_if_else l = l.depth * 4 + 1

abbrev pub decreases-walk_sequence : goal.decreases-walk_sequence
decreases-walk_sequence l = l.depth * 4 + 1

abbrev pub decreases-walk_while : goal.decreases-walk_while
decreases-walk_while l = l.depth * 4 + 2
