-- `dispatch::picking::turn_at` meets its contract: nothing found, a full record, a record with room. Assumes nothing.
use mathlib.Core.Path.{◌∙◌}
use Prim.Native.Nat.{◌<◌}
use native.Mathlib.Omega.{arith}
use Rattle.dispatch.specs.Turn.{turn_of}
use Rattle.dispatch.proofs.Turns.{turn-nowhere, turn-full, turn-picked}
use Rattle.dispatch.proofs.picking.turn_at.Goals as goal

pub returns-in_default : goal.returns-in_default
unfolding turn_of
returns-in_default c =
    turn-nowhere _ _ c.in_default.is

pub offset_bounds-list-i : goal.offset_bounds-list-i
offset_bounds-list-i c =
    let h : c.in-Some.i < 8 = c.requires _ c.in-Some.is in
    omega arith

pub bounds-list-i : goal.bounds-list-i
bounds-list-i c =
    c.requires _ c.in-Some.is

pub returns-then-r : goal.returns-then-r
returns-then-r c =
    c.refused.ensures ∙ turn-full _ _ c.in-Some.is c.if-r.true

pub overflow_cast-result : goal.overflow_cast-result
overflow_cast-result c =
    let h : c.in-Some.i < 8 = c.requires _ c.in-Some.is in
    omega arith

pub returns : goal.returns
returns c =
    turn-picked _ _ c.in-Some.is c.if-r.false
