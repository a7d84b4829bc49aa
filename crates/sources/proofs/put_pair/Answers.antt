-- `sources::put_pair` meets its contract. Assumes nothing.
use Rattle.writing.proofs.Buffer.{both}
use Rattle.sources.specs.Contents.{pair_of}
use Rattle.sources.proofs.put_pair.Goals as goal

pub returns : goal.returns
unfolding pair_of
returns c =
    both _ _ _ _ _
    (rw c.digit.ensures at c.put_byte-p.ensures)
    (rw c.digit-2.ensures at c.put_byte.ensures)
