-- `naming::row_byte` meets its contract. Assumes nothing.
use borrow.Author.Rules.{rules}
use mathlib.Core.Path.{sym}
use Rattle.naming.proofs.Naming.{row-name, row-end, row_last}
use Rattle.naming.proofs.row_byte.Goals as goal

pub returns-then-j-name : goal.returns-then-j-name
returns-then-j-name c =
    let a = c.args in sym (row-name a.name.now a.j c.if-j-lt31.true c.if-j-name.true)

pub returns-else-j-name : goal.returns-else-j-name
returns-else-j-name c =
    let a = c.args in sym (row-end a.name.now a.j c.if-j-lt31.true c.if-j-name.false)

pub returns-else-j-lt31 : goal.returns-else-j-lt31
returns-else-j-lt31 c =
    let a = c.args in sym (row_last a.name.now a.j c.if-j-lt31.false (search rules))
