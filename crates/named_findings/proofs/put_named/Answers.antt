-- `named_findings::put_named` meets its contract. Assumes nothing.
use borrow.Author.Rules.{rules}
use Rattle.writing.proofs.Buffer.{both}
use Rattle.named_findings.proofs.put_named.Goals as goal

pub returns : goal.returns
returns c =
    both _ _ _ _ _ c.put_word-p.ensures c.put_name.ensures
