-- `extraction::fill` meets its contract. Assumes nothing.
use mathlib.Core.Path.{refl}
use native.Mathlib.Omega.{arith}
use Rattle.tables.proofs.Readers.{at_most-most}
use Rattle.extraction.proofs.Extracting.{fill-path}
use borrow.Author.Rules.{rules}
use Rattle.extraction.proofs.fill.Goals as goal

pub walk_first-requires : goal.walk_first-requires
walk_first-requires c =
    omega (arith, at_most-most 8 c.args.layout.threads, c.thread_count.ensures)

pub returns : goal.returns
returns c =
    fill-path _ _ _ _ _ _ c.writers.ensures.plain_after c.writers.ensures.later_after c.word.ensures c.word-2.ensures c.word-3.ensures
    refl c.put_variables.ensures c.thread_count.ensures c.walk_first.ensures
