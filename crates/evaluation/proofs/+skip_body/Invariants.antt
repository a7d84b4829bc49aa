-- `evaluation::skip_body` meets its contract, map by map; the depth falls. Assumes nothing.
use Rattle.evaluation.proofs.+skip_body.Given as goal

abbrev pub decreases-skip_body : goal.decreases-skip_body
decreases-skip_body l = l.depth
