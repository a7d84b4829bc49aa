-- The walk is made by four functions that call each other; each meets its contract.
-- The measure goes by the instructions that are left. Assumes nothing.
use Prim.Native.Nat.{◌+◌, ◌*◌}
use Rattle.extraction.specs.Walking.{act_at}
use Rattle.extraction.proofs.Walking.{assign-path, branch-path, walk-spent, walk-full, walk-wait, walk-act}
use Prim.Native.Nat.{ℕ, ◌<◌}
use borrow.Author.Rules.{rules}
use Rattle.extraction.proofs.walk.+walk_walk_action_walk_assign_walk_branch.Given as goal

abbrev pub decreases-walk : goal.decreases-walk
decreases-walk l = 3 * l.fuel

abbrev pub decreases-walk_action : goal.decreases-walk_action
decreases-walk_action l = 3 * l.fuel + 2

abbrev pub decreases-walk_assign : goal.decreases-walk_assign
decreases-walk_assign l = 3 * l.fuel + 1

abbrev pub decreases-walk_branch : goal.decreases-walk_branch
decreases-walk_branch l = 3 * l.fuel + 1
