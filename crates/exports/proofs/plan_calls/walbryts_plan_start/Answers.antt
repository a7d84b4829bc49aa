-- `exports::plan_calls::walbryts_plan_start` meets its contract. Assumes nothing.
use mathlib.Core.Path.{ap, ◌∙◌}
use Rattle.saved.specs.Saved.{saved}
use Rattle.exports.proofs.plan_calls.walbryts_plan_start.Goals as goal

pub returns : goal.returns
returns c =
    c.save.ensures ∙ ap saved c.start-first.ensures
