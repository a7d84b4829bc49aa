-- `exports::unfit` meets its contract. Assumes nothing.
use Rattle.exports.proofs.Exports.{unfit-refused, unfit-read}
use Rattle.exports.proofs.unfit.Goals as goal

pub returns-then-r-ne0 : goal.returns-then-r-ne0
returns-then-r-ne0 c =
    unfit-refused c.args.sheet.now c.read-r.result c.read-r.ensures c.if-r-ne0.true

pub returns : goal.returns
returns c =
    unfit-read c.args.sheet.now c.read-r.result c.read-r.ensures c.if-r-ne0.false
