-- `plan_engine::leg` meets its contract. Assumes nothing.
use mathlib.Core.Path.{sym, ◌∙◌}
use Rattle.plan_engine.specs.Acting.{leg}
use borrow.Author.Rules.{rules}
use Rattle.plan_engine.proofs.leg.Goals as goal

pub returns-then-holds_cell : goal.returns-then-holds_cell
unfolding leg
returns-then-holds_cell c =
    rw (c.after.ensures, sym c.holds_cell.ensures ∙ c.if-holds_cell.true)

pub returns-else-holds_cell : goal.returns-else-holds_cell
unfolding leg
returns-else-holds_cell c =
    rw (sym c.holds_cell.ensures ∙ c.if-holds_cell.false)
