-- `exports::plan_cycles::walbryts_clock_prepare` meets its contract. Assumes nothing.
use Rattle.exports.proofs.plan_cycles.walbryts_clock_prepare.Goals as goal

pub returns : goal.returns
returns c =
    c.prepare.ensures
