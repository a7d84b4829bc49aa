-- `plan_engine::take` meets its contract. Assumes nothing.
use Rattle.plan_engine.proofs.Taking.{choice-thread, choice-wire, choice-commit, choice-none}
use borrow.Author.Rules.{rules}
use Rattle.plan_engine.proofs.take.Goals as goal

pub returns-then-c-threads : goal.returns-then-c-threads
returns-then-c-threads c =
    choice-thread _ _ _ _ _ (rw c.threads-threads.ensures at c.if-c-threads.true) c.take_thread.ensures

pub returns-then-c-threads-2 : goal.returns-then-c-threads-2
returns-then-c-threads-2 c =
    choice-wire _ _ _ _ (rw c.threads-threads.ensures at c.if-c-threads.false)
    _ (rw (c.threads-threads.ensures, c.wires.ensures) at c.if-c-threads-2.true)
    (rw c.threads-threads.ensures at c.take_wire.ensures)

pub returns-then-c-eq255 : goal.returns-then-c-eq255
returns-then-c-eq255 c =
    choice-commit _ _ _ _ (rw c.threads-threads.ensures at c.if-c-threads.false)
    (rw (c.threads-threads.ensures, c.wires.ensures) at c.if-c-threads-2.false) _
    c.if-c-eq255.true c.take_commit.ensures

pub returns : goal.returns
returns c =
    choice-none _ _ _ _ (rw c.threads-threads.ensures at c.if-c-threads.false)
    (rw (c.threads-threads.ensures, c.wires.ensures) at c.if-c-threads-2.false)
    c.if-c-eq255.false
