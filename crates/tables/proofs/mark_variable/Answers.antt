-- `tables::mark_variable` meets its contract. Assumes nothing.
use borrow.Author.Rules.{rules}
use mathlib.Core.Path.{sym}
use Rattle.tables.proofs.Readers.{mark_variable-past, mark_variable-word}
use Rattle.tables.proofs.mark_variable.Goals as goal

pub returns-then-i-ge80 : goal.returns-then-i-ge80
returns-then-i-ge80 c =
    let a = c.args in
    sym (mark_variable-past a.k a.v a.readers.now c.if-i-ge80.true)

pub returns : goal.returns
returns c =
    let a = c.args in
    mark_variable-word a.k a.v a.readers.now c.if-i-ge80.false (search rules) c.with.ensures
