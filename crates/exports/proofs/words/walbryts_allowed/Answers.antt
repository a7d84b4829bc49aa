-- `exports::words::walbryts_allowed` meets its contract. Assumes nothing.
use Rattle.exports.proofs.words.walbryts_allowed.Goals as goal

pub returns : goal.returns
returns c =
    c.put_allowed.ensures
