-- `plan_changes::store` meets its contract: the ways through `put`, and where one wakes nobody, nobody moves on. Assumes nothing.
use mathlib.Core.Path.{refl, sym, ap, ◌∙◌}
use Prim.Native.Nat.{ℕ}
use lib.ListN.{set}
use Rattle.masks.specs.Masks.{bits, either, any_mark}
use Rattle.values.specs.Cells.{cell_of, cell_at}
use Rattle.plan.specs.Plan.{plan_of}
use Rattle.plan_changes.specs.Changes.{opened, store}
use Rattle.plan_changes.proofs.Changes.{put-past, put_same, put-unwatched, put-watched, store-quiet, finish-made}
use Rattle.plan_changes.proofs.store.Goals as goal

pub returns-then-v-ge80 : goal.returns-then-v-ge80
returns-then-v-ge80 c =
    record { ready_after = store-quiet _ _ _ _ _ _ _ _ _ (put-past _ _ _ _ _ c.if-v-ge80.true); held_value = refl }

pub returns-then-same_cells-clause-ready_after : goal.returns-then-same_cells-clause-ready_after
unfolding cell_at
returns-then-same_cells-clause-ready_after c =
    let a = c.args in
    let q = plan_of a.plan.now in
    let k = opened a.cells.now (bits a.marks.due) in
    let s = ap (λ (x : ℕ). set a.cells.now a.v x) (c.store.ensures ∙ ap cell_of c.load.ensures) in
    store-quiet _ _ _ _ _ _ _ _ _
    (put_same q a.places.now a.v a.c k c.if-v-ge80.false _ s (sym c.same_cells.ensures ∙ c.if-same_cells.true))

pub returns-then-not-any-clause-ready_after : goal.returns-then-not-any-clause-ready_after
unfolding cell_at
returns-then-not-any-clause-ready_after c =
    let a = c.args in
    let q = plan_of a.plan.now in
    let k = opened a.cells.now (bits a.marks.due) in
    let s = ap (λ (x : ℕ). set a.cells.now a.v x) (c.store.ensures ∙ ap cell_of c.load.ensures) in
    let d = c.union-due.ensures ∙ ap (either (bits a.marks.due)) c.readers.ensures in
    let w = ap any_mark (sym c.watchers.ensures) ∙ sym c.any.ensures ∙ c.if-not-any.true in
    store-quiet _ _ _ _ _ _ _ _ _
    (put-unwatched q a.places.now a.v a.c k c.if-v-ge80.false _ s (sym c.same_cells.ensures ∙ c.if-same_cells.false)
    _ d w)

pub returns-clause-ready_after : goal.returns-clause-ready_after
unfolding store cell_at
returns-clause-ready_after c =
    let a = c.args in
    let q = plan_of a.plan.now in
    let k = opened a.cells.now (bits a.marks.due) in
    let s = ap (λ (x : ℕ). set a.cells.now a.v x) (c.store.ensures ∙ ap cell_of c.load.ensures) in
    let d = c.union-due.ensures ∙ ap (either (bits a.marks.due)) c.readers.ensures in
    finish-made _ _ _ _ _
    (put-watched q a.places.now a.v a.c k c.if-v-ge80.false _ s (sym c.same_cells.ensures ∙ c.if-same_cells.false)
    _ d _ c.wake-woken.ensures)
    c.move_on-ready.ensures
