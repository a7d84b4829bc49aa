-- `prepared::raised` meets its contract: each way through the code is a law of proofs/Ways. Assumes nothing.
use native.Mathlib.Omega.{arith}
use mir.Syntax.{w32, w64}
use mir.Val.{Fits}
use lib.ListN.{get_or}
use Rattle.prepared.proofs.Ways.{raised-none, raised-other, raised-some}
use borrow.Author.Rules.{rules}
use Rattle.prepared.proofs.raised.Goals as goal

pub returns-then-user-ge-USERS : goal.returns-then-user-ge-USERS
returns-then-user-ge-USERS c =
    raised-other c.args.c c.args.user _ (search rules) (omega arith)

pub returns-then-room_in-n : goal.returns-then-room_in-n
returns-then-room_in-n c =
    raised-none _ _ _ (omega (arith, c.room_in.ensures))

pub overflow_add-counts : goal.overflow_add-counts
overflow_add-counts c =
    let p = c.args in
    let a : Fits w64 (get_or p.c.counts p.user 0) = search rules in
    let b : Fits w32 (get_or p.c.allowances p.user 0) = search rules in
    omega (arith, c.room_in.ensures, a.fits, b.fits)

pub returns : goal.returns
returns c =
    raised-some _ _ _ (omega (arith, c.room_in.ensures))
