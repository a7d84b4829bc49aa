-- `plan_engine::run_plain` meets its contract. Assumes nothing.
use mathlib.Core.Path.{◌∙◌}
use Rattle.plan_engine.proofs.Running.{turns-plain}
use borrow.Author.Rules.{rules}
use Rattle.plan_engine.proofs.run_plain.Goals as goal

pub returns : goal.returns
returns c =
    c.take_turns.ensures ∙ turns-plain _ _ _ _
