-- `clock_nodes::copy_node` meets its contract. Assumes nothing.
use Rattle.clock_nodes.specs.Copying.{put_words, copy_node}
use Rattle.clock_nodes.proofs.copy_node.Goals as goal

pub returns : goal.returns
unfolding copy_node put_words
returns c =
    rw (
      c.put_node.ensures,
      c.first_of-x.ensures,
      c.second_of-y.ensures,
      c.third_of-z.ensures,
      c.word_at-k.ensures,
      c.word_at-a.ensures,
      c.word_at-b.ensures,
      c.word_at-c.ensures,
    )
