-- `overview::nets::put_shown_node` meets its contract. Assumes nothing.
use borrow.Author.Rules.{rules}
use mathlib.Core.Path.{sym}
use borrow.Author.Tests.{not-true, not-false}
use Rattle.writing.proofs.Buffer.{puts-nil}
use Rattle.overview.specs.Shown.{shown_node}
use Rattle.overview.proofs.nets.put_shown_node.Goals as goal

pub returns-then-not-is_named : goal.returns-then-not-is_named
unfolding shown_node
returns-then-not-is_named c =
    rw (← c.is_named.ensures, c.if-not-is_named.true) (sym (puts-nil _))

pub returns : goal.returns
unfolding shown_node
returns c =
    rw (← c.is_named.ensures, c.if-not-is_named.false) c.print_definition.ensures
