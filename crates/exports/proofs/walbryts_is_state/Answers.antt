-- `exports::walbryts_is_state` meets its contract. Assumes nothing.
use Rattle.saved.specs.Saved.{loaded}
use Rattle.exports.specs.Saved.{is_state}
use Rattle.exports.proofs.Saved.{found-saved}
use Rattle.exports.proofs.walbryts_is_state.Goals as goal

pub returns : goal.returns
unfolding is_state
returns c =
    found-saved (loaded c.args.bytes.now) c.load-l.result c.load-l.ensures
