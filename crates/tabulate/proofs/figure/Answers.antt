-- `tabulate::figure` meets its contract. Assumes nothing.
use mathlib.Core.Path.{sym}
use Rattle.tabulate.proofs.Tabulate.{figure-digit, figure-letter}
use borrow.Author.Rules.{rules}
use Rattle.tabulate.proofs.figure.Goals as goal

pub returns-then-n-lt10 : goal.returns-then-n-lt10
returns-then-n-lt10 c =
    sym (figure-digit _ c.if-n-lt10.true)

pub returns-else-n-lt10 : goal.returns-else-n-lt10
returns-else-n-lt10 c =
    sym (figure-letter _ c.if-n-lt10.false)
