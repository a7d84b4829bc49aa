-- `exports::walbryts_read` meets its contract: the answer of reading has the number and the place that `read` gives.
-- Assumes nothing.
use Rattle.exports.proofs.Exports.{number_read, place_read}
use Rattle.exports.proofs.walbryts_read.Goals as goal

pub returns : goal.returns
returns c =
    let r = c.read-found.result in
    let s = c.args.sheet.now in
    (record { value = number_read s r c.read-found.ensures; place_after = place_read s r c.read-found.ensures })
