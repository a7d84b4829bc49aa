-- `stimulus::pieces::unended` meets its contract, row by row. Assumes nothing.
use borrow.Author.Tests.{lt-leb, le-leb}
use native.Mathlib.Omega.{arith}
use Prim.Native.Nat.{◌+◌}
use lib.ListN.{length}
use Rattle.stimulus.specs.Waiting.{unended}
use Rattle.stimulus.proofs.pieces.unended.Goals as goal

pub returns-then-to-from : goal.returns-then-to-from
unfolding unended
returns-then-to-from c =
    let a = c.args in
    rw (lt-leb (a.from + length a.bytes.now) a.to (omega arith))

pub returns-then-to-from-2 : goal.returns-then-to-from-2
unfolding unended
returns-then-to-from-2 c =
    let a = c.args in
    rw (lt-leb (a.from + length a.bytes.now) a.to (omega arith))

pub returns : goal.returns
unfolding unended
returns c =
    let a = c.args in
    rw (le-leb (a.from + length a.bytes.now) a.to (omega arith))
