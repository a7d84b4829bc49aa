use mathlib.Core.Path.{refl}
use Rattle.verilog_stmts.specs.Steps.{stamp_at}
use Rattle.verilog_stmts.proofs.EventPaths.{none, on_or, on-comma, ended}
use Rattle.verilog_stmts.proofs.+events.Goals as goal

pub returns-then-fuel-eq0 : goal.returns-then-fuel-eq0
returns-then-fuel-eq0 t c =
    none _ _ _ _ _ _ c.if-fuel-eq0.true (rw c.refused.ensures refl)

pub returns-then-is_next : goal.returns-then-is_next
returns-then-is_next t c =
    on_or _ _ _ _ _ _ _ c.if-fuel-eq0.false
    c.one_more-m.ensures c.event-a.ensures
    c.is_next.ensures c.if-is_next.true
    (rw (← c.after.ensures) c.events.ensures)

pub returns-then-is_next-2 : goal.returns-then-is_next-2
returns-then-is_next-2 t c =
    on-comma _ _ _ _ _ _ _ c.if-fuel-eq0.false
    c.one_more-m.ensures
    c.event-a.ensures
    c.is_next.ensures c.if-is_next.false
    c.is_next-2.ensures c.if-is_next-2.true
    (rw (← c.after-then-is_next-2.ensures) c.events-then-is_next-2.ensures)

pub returns : goal.returns
unfolding stamp_at
returns t c =
    ended _ _ _ _ _ _ _ c.if-fuel-eq0.false
    c.one_more-m.ensures
    c.event-a.ensures
    c.is_next.ensures c.if-is_next.false
    c.is_next-2.ensures c.if-is_next-2.false
    (rw (← c.counted.ensures, ← c.stamp.ensures) refl)
