-- `dispatch::picking::served` meets its contract: no records, too many, a number outside them, or the turn of the next busy one.
-- Assumes nothing.
use mathlib.Core.Path.{◌∙◌}
use Prim.Native.Nat.{◌<◌, ◌≤◌}
use native.Mathlib.Omega.{arith}
use Rattle.dispatch.proofs.Turns.{refused_none, refused-many, refused-outside, turn-found, next_small}
use Rattle.dispatch.proofs.picking.served.Goals as goal

pub returns-then-count-eq0 : goal.returns-then-count-eq0
returns-then-count-eq0 c =
    c.refused.ensures ∙ refused_none _ _ _ c.if-count-eq0.true

pub returns-then-count-gt8 : goal.returns-then-count-gt8
returns-then-count-gt8 c =
    c.refused-then-count-gt8.ensures ∙ refused-many _ _ _ c.if-count-gt8.true

pub returns-then-served-count : goal.returns-then-served-count
returns-then-served-count c =
    let a = c.args in
    let some : 0 < a.count = omega (arith, c.if-count-eq0.false) in
    let few : a.count ≤ 8 = omega arith in
    c.refused-then-served-count.ensures ∙ refused-outside _ _ _ some few (omega arith)

pub turn_at-requires : goal.turn_at-requires
turn_at-requires c =
    let a = c.args in
    let few : a.count ≤ 8 = omega arith in
    next_small _ _ _ few (omega arith) c.next_busy.ensures

pub returns : goal.returns
returns c =
    let a = c.args in
    let some : 0 < a.count = omega (arith, c.if-count-eq0.false) in
    let few : a.count ≤ 8 = omega arith in
    c.turn_at.ensures ∙ turn-found _ _ _ some few (omega arith) c.next_busy.ensures
