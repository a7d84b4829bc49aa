-- `rules::thread_writes` meets its contract. The loop's invariant: the marks are those of the instructions below `p`. Assumes nothing.
use borrow.Author.Rules.{rules}
use native.Mathlib.Omega.{arith}
use Rattle.rules.proofs.Writing.{marks-none, marks-turn}
use Rattle.rules.proofs.thread_writes.Goals as goal

pub loop-p-init : goal.loop-p-init
loop-p-init c =
    (search rules, marks-none _ _ _ _, marks-none _ _ _ _)

pub loop-p-preserved : goal.loop-p-preserved
loop-p-preserved c =
    let l = c.loop-p.invariant in
    let f = c.fetch-i.ensures in (
      omega arith,
      marks-turn _ _ _ _ _ _ _ l.1 f c.set_register.ensures c.with-plain.ensures,
      marks-turn _ _ _ _ _ _ _ l.2 f c.later_register.ensures c.with-later.ensures,
    )
