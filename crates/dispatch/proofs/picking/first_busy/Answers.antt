-- `dispatch::picking::first_busy` meets its contract. The invariant: what is left to search has the same first busy one as the
-- whole. Assumes nothing.
use native.Mathlib.Omega.{arith}
use mathlib.Core.Path.{refl, sym, ◌∙◌}
use Rattle.dispatch.proofs.Circle.{first-here, first_on, first-empty}
use Rattle.dispatch.proofs.picking.first_busy.Goals as goal

pub loop-i-init : goal.loop-i-init
loop-i-init c =
    refl

pub offset_bounds-list-i : goal.offset_bounds-list-i
offset_bounds-list-i c =
    omega arith

pub bounds-list-i : goal.bounds-list-i
bounds-list-i c =
    omega arith

pub returns-then-r : goal.returns-then-r
returns-then-r c =
    first-here _ _ _ (omega arith) c.if-r.true ∙ c.loop-i.invariant

pub loop-i-preserved : goal.loop-i-preserved
loop-i-preserved c =
    sym (first_on _ _ _ (omega arith) c.if-r.false) ∙ c.loop-i.invariant

pub returns : goal.returns
returns c =
    first-empty _ _ _ (omega arith) ∙ c.loop-i.invariant
