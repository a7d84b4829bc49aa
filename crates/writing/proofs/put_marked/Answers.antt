-- `writing::put_marked` meets its contract. Assumes nothing.
use Rattle.writing.proofs.Buffer.{both}
use Rattle.writing.proofs.put_marked.Goals as goal

pub returns : goal.returns
returns c =
    both _ _ _ _ _ c.put_byte-p.ensures c.put_decimal.ensures
