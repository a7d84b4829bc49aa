-- `plan_changes::put` meets its contract. Assumes nothing.
use mathlib.Core.Path.{sym, ap, ◌∙◌}
use borrow.Author.Tests.{lt-ltb, le-ltb}
use Rattle.masks.specs.Masks.{any_mark}
use Rattle.values.specs.Cells.{cell_at}
use Rattle.plan_changes.specs.Changes.{put, wake}
use Rattle.plan_changes.proofs.put.Goals as goal

pub returns-then-v-ge80 : goal.returns-then-v-ge80
unfolding put
returns-then-v-ge80 c =
    rw (le-ltb _ _ c.if-v-ge80.true)

pub returns-then-same_cells : goal.returns-then-same_cells
unfolding put cell_at
returns-then-same_cells c =
    rw (
      lt-ltb _ _ c.if-v-ge80.false,
      sym c.same_cells.ensures ∙ c.if-same_cells.true,
      c.store.ensures,
      c.load.ensures,
    )

pub returns-then-not-any : goal.returns-then-not-any
unfolding put wake cell_at
returns-then-not-any c =
    let w = ap any_mark (sym c.watchers.ensures) ∙ sym c.any.ensures ∙ c.if-not-any.true in
    rw (
      lt-ltb _ _ c.if-v-ge80.false,
      sym c.same_cells.ensures ∙ c.if-same_cells.false,
      c.store.ensures,
      c.load.ensures,
      c.union-due.ensures,
      c.readers.ensures,
      w,
    )

pub returns : goal.returns
unfolding put cell_at
returns c =
    rw (
      lt-ltb _ _ c.if-v-ge80.false,
      sym c.same_cells.ensures ∙ c.if-same_cells.false,
      c.store.ensures,
      c.load.ensures,
      c.union-due.ensures,
      c.readers.ensures,
      c.wake-woken.ensures,
    )
