-- `exports::words::walbryts_reason` meets its contract. Assumes nothing.
use Rattle.exports.proofs.words.walbryts_reason.Goals as goal

pub returns : goal.returns
returns c =
    c.put_reason.ensures
