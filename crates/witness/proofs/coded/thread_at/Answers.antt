-- `coded::thread_at` meets its contract. Assumes nothing.
use Rattle.extraction.specs.Filling.{thread_at}
use borrow.Author.Rules.{rules}
use Rattle.witness.proofs.coded.thread_at.Goals as goal

pub returns : goal.returns
unfolding thread_at
returns c =
    rw c.both-written.ensures
