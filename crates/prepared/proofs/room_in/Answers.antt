-- `prepared::room_in` meets its contract. Assumes nothing.
use native.Mathlib.Omega.{arith}
use Rattle.prepared.proofs.Ways.{room-none}
use borrow.Author.Rules.{rules}
use Rattle.prepared.proofs.room_in.Goals as goal

pub returns-then-user-ge-USERS : goal.returns-then-user-ge-USERS
returns-then-user-ge-USERS c =
    room-none c.args.c c.args.user (search rules) (search rules) (omega arith)
