-- `filling::walk_threads` meets its contract. Assumes nothing.
use borrow.Author.Rules.{rules}
use native.Mathlib.Omega.{arith}
use Rattle.tables.proofs.Readers.{at_most-most}
use Rattle.extraction.proofs.filling.walk_threads.Goals as goal

pub walk_first-requires : goal.walk_first-requires
walk_first-requires c =
    omega (arith, at_most-most 8 c.args.threads, c.few.ensures)

pub returns : goal.returns
returns c =
    rw c.few.ensures at c.walk_first.ensures
