-- `walk::merge` meets its contract. Assumes nothing.
use mathlib.Core.Path.{sym, ◌∙◌}
use Rattle.extraction.proofs.Walking.{merge-written, merge-other}
use borrow.Author.Rules.{rules}
use Rattle.extraction.proofs.walk.merge.Goals as goal

pub returns-then-has : goal.returns-then-has
returns-then-has c =
    merge-written _ _ _ _ _ _ _ (sym c.if-has.true ∙ c.has.ensures) c.emit_node-n.ensures.value c.emit_node-n.ensures.nodes_after

pub returns : goal.returns
returns c =
    merge-other _ _ _ _ _ _ _ (sym c.if-has.false ∙ c.has.ensures)
