-- `clock_nodes::low_node` meets its contract. Assumes nothing.
use Rattle.clock_nodes.specs.Copying.{low_node}
use Rattle.clock_nodes.proofs.low_node.Goals as goal

pub returns : goal.returns
unfolding low_node
returns c =
    rw (
      c.lowest.ensures,
      c.word_at-k.ensures,
      c.word_at-a.ensures,
      c.word_at-b.ensures,
      c.word_at-c.ensures,
    )
