-- `prepared::userless` meets its contract: each way through the code is a law of proofs/Ways. Assumes nothing.
use native.Mathlib.Omega.{arith}
use Rattle.prepared.proofs.Ways.{userless-item, userless-commit, userless-none}
use Rattle.prepared.proofs.userless.Goals as goal

pub returns-then-c-threads : goal.returns-then-c-threads
returns-then-c-threads c =
    userless-item _ _ (omega (arith, c.wires.ensures, c.threads.ensures))

pub returns-then-c-eq255 : goal.returns-then-c-eq255
returns-then-c-eq255 c =
    userless-commit _ _ (omega (arith, c.wires.ensures, c.threads.ensures)) c.if-c-eq255.true

pub returns-else-c-eq255 : goal.returns-else-c-eq255
returns-else-c-eq255 c =
    userless-none _ _ (omega (arith, c.wires.ensures, c.threads.ensures)) c.if-c-eq255.false
