-- `extraction::thread_count` meets its contract. Assumes nothing.
use mathlib.Core.Path.{sym}
use Rattle.tables.proofs.Readers.{at_most-in, at_most-cut}
use Rattle.extraction.proofs.thread_count.Goals as goal

pub returns-then-threads-lt8 : goal.returns-then-threads-lt8
returns-then-threads-lt8 c =
    sym (at_most-in _ _ c.if-threads-lt8.true)

pub returns-else-threads-lt8 : goal.returns-else-threads-lt8
returns-else-threads-lt8 c =
    sym (at_most-cut _ _ c.if-threads-lt8.false)
