-- `plan_changes::move_thread` meets its contract. Assumes nothing.
use mathlib.Core.Path.{sym, ◌∙◌}
use Rattle.plan_changes.specs.Changes.{move_thread}
use Rattle.plan_changes.proofs.move_thread.Goals as goal

pub returns-then-has : goal.returns-then-has
unfolding move_thread
returns-then-has c =
    rw (sym c.has.ensures ∙ c.if-has.true, c.go_to.ensures, c.after-p.ensures)

pub returns-else-has : goal.returns-else-has
unfolding move_thread
returns-else-has c =
    rw (sym c.has.ensures ∙ c.if-has.false)
