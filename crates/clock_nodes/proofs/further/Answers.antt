-- `clock_nodes::further` meets its contract, test by test. Assumes nothing.
use mathlib.Core.Path.{◌∙◌}
use Rattle.clock_nodes.proofs.Reaching.{no_node, node-max}
use Rattle.clock_nodes.proofs.further.Goals as goal

pub returns-then-entry-lt4096 : goal.returns-then-entry-lt4096
returns-then-entry-lt4096 c =
    c.max.ensures ∙ node-max _ _ c.if-entry-lt4096.true

pub returns-else-entry-lt4096 : goal.returns-else-entry-lt4096
returns-else-entry-lt4096 c =
    no_node _ _ c.if-entry-lt4096.false
