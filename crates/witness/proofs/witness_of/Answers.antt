-- `witness::witness_of` meets its contract. Assumes nothing.
use Rattle.witness.proofs.Seeking.{witness-refused, witness-read}
use borrow.Author.Rules.{rules}
use Rattle.witness.proofs.witness_of.Goals as goal

pub returns-then-read-ne0 : goal.returns-then-read-ne0
returns-then-read-ne0 c =
    witness-refused _ _ c.read-read.ensures c.if-read-ne0.true c.bare.ensures

pub returns : goal.returns
returns c =
    witness-read _ _ c.read-read.ensures c.if-read-ne0.false _ _ _ c.compile-sizes.ensures.code_after c.compile-sizes.ensures.value c.fill_readers.ensures
    c.filled.ensures
