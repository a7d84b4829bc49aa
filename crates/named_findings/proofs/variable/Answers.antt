-- `named_findings::variable` meets its contract. Assumes nothing.
use borrow.Author.Rules.{rules}
use borrow.Author.Tests.{lt-ltb, le-ltb}
use Rattle.named_findings.specs.Findings.{variable}
use Rattle.named_findings.proofs.variable.Goals as goal

pub returns-then-k-lt80 : goal.returns-then-k-lt80
unfolding variable
returns-then-k-lt80 c =
    rw (lt-ltb _ _ c.if-k-lt80.true)

pub returns-else-k-lt80 : goal.returns-else-k-lt80
unfolding variable
returns-else-k-lt80 c =
    rw (le-ltb _ _ c.if-k-lt80.false)
