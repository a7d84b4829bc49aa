-- `plan_changes::wake_thread` meets its contract. Assumes nothing.
use mathlib.Core.Path.{sym, ◌∙◌}
use Rattle.plan_changes.specs.Changes.{wake_thread}
use Rattle.plan_changes.proofs.wake_thread.Goals.{else-has-via-then-has+else-wakes, else-has-via-else-has}
use Rattle.plan_changes.proofs.wake_thread.Goals as goal

pub returns-then-wakes : goal.returns-then-wakes
unfolding wake_thread
returns-then-wakes c =
    rw (
      ← c.watchers-watchers.ensures,
      sym c.has.ensures ∙ c.if-has.true,
      sym c.wakes.ensures ∙ c.if-wakes.true,
      c.with.ensures,
    )

pub returns-else-has : goal.returns-else-has
unfolding wake_thread
returns-else-has c =
    elim c.else-has.branch [
      | else-has-via-then-has+else-wakes w ↦
          rw (← c.watchers-watchers.ensures, sym c.has.ensures ∙ w.if-has.true, sym w.wakes.ensures ∙ w.if-wakes.false)
      | else-has-via-else-has w ↦ rw (← c.watchers-watchers.ensures, sym c.has.ensures ∙ w.if-has.false)
    ]
