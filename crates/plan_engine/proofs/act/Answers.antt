-- `plan_engine::act` meets its contract. Assumes nothing.
use mathlib.Core.Path.{refl, ap}
use Rattle.masks.specs.Masks.{bits}
use Rattle.plan_engine.proofs.Acting.{act-set, act-later, act-go, act-ifnot}
use borrow.Author.Rules.{rules}
use Rattle.plan_engine.proofs.act.Goals as goal

pub returns-in-Set : goal.returns-in-Set
returns-in-Set c =
    rw c.in-Set.is
    (act-set _ _ _ _ _ _ _ _ _ _ _ _ c.evaluate-c.ensures.cells_after c.evaluate-c.ensures.value
    _ _ c.after.ensures _ _ _ _
    refl (ap bits c.store-m.ensures.held_value) c.store-m.ensures.ready_after c.go_to-ready.ensures)

pub returns-in-Later : goal.returns-in-Later
returns-in-Later c =
    rw c.in-Later.is
    (act-later _ _ _ _ _ _ _ _ _ _ _ _ c.evaluate-c-in-Later.ensures.cells_after c.evaluate-c-in-Later.ensures.value
    _ _ c.after-in-Later.ensures _ _ _
    c.defer-held.ensures.pending_after c.defer-held.ensures.result_value c.go_to-ready-in-Later.ensures)

pub returns-in-Go : goal.returns-in-Go
returns-in-Go c =
    rw c.in-Go.is (act-go _ _ _ _ _ _ _ _ _ _ _ c.go_to-ready-in-Go.ensures)

pub returns-in-IfNot : goal.returns-in-IfNot
returns-in-IfNot c =
    rw c.in-IfNot.is
    (act-ifnot _ _ _ _ _ _ _ _ _ _ _ _ c.evaluate-c-in-IfNot.ensures.cells_after c.evaluate-c-in-IfNot.ensures.value
    _ _ _ c.leg.ensures c.go_to-ready-in-IfNot.ensures)
