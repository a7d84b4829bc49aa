-- `plan_changes::wakes` meets its contract. Assumes nothing.
use mathlib.Core.Path.{sym, ◌∙◌}
use Rattle.plan.proofs.Waiting.{wait-fetched}
use Rattle.plan_changes.specs.Changes.{wakes}
use Rattle.plan_changes.proofs.Changes.{wakes-none, min-eight}
use Rattle.plan_changes.proofs.wakes.Goals as goal

pub returns-else-waits : goal.returns-else-waits
returns-else-waits c =
    c.if-waits.false ∙ sym (wakes-none _ _ _ _ _ _ (sym c.waits.ensures ∙ c.if-waits.false))

pub returns-then-waits : goal.returns-then-waits
unfolding wakes
returns-then-waits c =
    rw (
      wait-fetched _ _ _ (sym c.waits.ensures ∙ c.if-waits.true),
      c.terms_wake.ensures,
      c.min.ensures,
      min-eight _,
      c.term_count.ensures,
    )
