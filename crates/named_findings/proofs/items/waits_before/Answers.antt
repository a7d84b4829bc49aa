-- `named_findings::items::waits_before` meets its contract. Assumes nothing.
use borrow.Author.Rules.{rules}
use Rattle.named_findings.proofs.Waits.{waits-whole}
use Rattle.named_findings.proofs.items.waits_before.Goals as goal

pub returns : goal.returns
returns c =
    waits-whole _ _ _ c.read.ensures c.compile-sizes.ensures.value c.compile-sizes.ensures.code_after
    c.waits_with.ensures
