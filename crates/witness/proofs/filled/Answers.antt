-- `witness::filled` meets its contract. Assumes nothing.
use Rattle.witness.proofs.Seeking.{filled-path}
use borrow.Author.Rules.{rules}
use Rattle.witness.proofs.filled.Goals as goal

pub returns : goal.returns
returns c =
    let w = c.writers.ensures in
    filled-path _ _ _ _ _ w.plain_after w.later_after c.thread_readers.ensures c.judged.ensures
