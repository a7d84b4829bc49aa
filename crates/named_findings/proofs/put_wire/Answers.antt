-- `named_findings::put_wire` meets its contract. Assumes nothing.
use borrow.Author.Rules.{rules}
use Rattle.writing.specs.Ascii.{ascii}
use Rattle.writing.proofs.Buffer.{both}
use Rattle.named_findings.specs.Findings.{wire_words}
use Rattle.named_findings.proofs.put_wire.Goals as goal

pub returns : goal.returns
unfolding ascii wire_words
returns c =
    both _ _ _ _ _
    (rw c.variable-v.ensures at
    c.put_named-p.ensures)
    (rw c.variable-u.ensures at c.put_named.ensures)
