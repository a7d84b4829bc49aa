-- `naming::put_plain` meets its contract. Assumes nothing.
use borrow.Author.Rules.{rules}
use mathlib.Core.Path.{sym}
use Rattle.naming.specs.Naming.{plain_name}
use Rattle.naming.proofs.put_plain.Goals as goal

pub returns : goal.returns
unfolding plain_name
returns c =
    rw (sym c.plain_mark-mark.ensures, sym c.plain_number-n.ensures)
    c.put_marked.ensures
