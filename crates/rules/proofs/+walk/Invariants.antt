-- How a statement waits, form by form; what is left of the depth falls. Assumes nothing.
use Rattle.rules.proofs.+walk.Given as goal

abbrev pub decreases-walk : goal.decreases-walk
decreases-walk l = l.depth
