-- The walk is made by four functions that call each other; each meets its contract.
-- The measure goes by the instructions that are left. Assumes nothing.
use Prim.Native.Nat.{◌+◌, ◌*◌}
use Rattle.extraction.specs.Walking.{act_at}
use Rattle.extraction.proofs.Walking.{assign-path, branch-path, walk-spent, walk-full, walk-wait, walk-act}
use Prim.Native.Nat.{ℕ, ◌<◌}
use borrow.Author.Rules.{rules}
use Rattle.extraction.proofs.walk.+walk_walk_action_walk_assign_walk_branch.Goals as goal

pub walk-returns-then-fuel-eq0 : goal.walk-returns-then-fuel-eq0
walk-returns-then-fuel-eq0 t c =
    walk-spent _ _ _ _ _ _ _ _ c.if-fuel-eq0.true c.ended.ensures

pub walk-returns-then-count-gt4096 : goal.walk-returns-then-count-gt4096
walk-returns-then-count-gt4096 t c =
    walk-full _ _ _ _ _ _ _ _ c.if-fuel-eq0.false c.if-count-gt4096.true c.ended-then-count-gt4096.ensures

pub walk-returns-in_default : goal.walk-returns-in_default
walk-returns-in_default t c =
    walk-wait _ _ _ _ _ _ _ _ c.if-fuel-eq0.false c.if-count-gt4096.false _ c.fetch-i.ensures c.in_default.is c.rest.ensures

pub walk-returns : goal.walk-returns
walk-returns t c =
    walk-act _ _ _ _ _ _ _ _ c.if-fuel-eq0.false c.if-count-gt4096.false _ c.fetch-i.ensures c.in-Act.is c.walk_action.ensures

pub walk_action-returns-in-Set : goal.walk_action-returns-in-Set
unfolding act_at
walk_action-returns-in-Set t c =
    rw c.in-Set.is c.walk_assign.ensures

pub walk_action-returns-in-Later : goal.walk_action-returns-in-Later
unfolding act_at
walk_action-returns-in-Later t c =
    rw c.in-Later.is c.walk_assign-in-Later.ensures

pub walk_action-returns-in-Go : goal.walk_action-returns-in-Go
unfolding act_at
walk_action-returns-in-Go t c =
    rw c.in-Go.is c.walk.ensures

pub walk_action-returns-in-IfNot : goal.walk_action-returns-in-IfNot
unfolding act_at
walk_action-returns-in-IfNot t c =
    rw c.in-IfNot.is c.walk_branch.ensures

pub walk_assign-returns : goal.walk_assign-returns
walk_assign-returns t c =
    assign-path _ _ _ _ _ _ _ _ _ _ c.express-x.ensures c.after.ensures c.register_of.ensures c.put-rows.ensures
    c.walk.ensures

pub walk_branch-returns : goal.walk_branch-returns
walk_branch-returns t c =
    branch-path _ _ _ _ _ _ _ _ _ c.express-x.ensures c.after.ensures c.walk-a.ensures c.walk-b.ensures c.join.ensures
