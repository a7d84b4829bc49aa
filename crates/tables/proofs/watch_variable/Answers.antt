-- `tables::watch_variable` meets its contract. Assumes nothing.
use mathlib.Core.Path.{sym}
use Rattle.tables.proofs.Readers.{watch_variable-past, watch_variable-in}
use Rattle.tables.proofs.watch_variable.Goals as goal

pub returns-then-i-ge80 : goal.returns-then-i-ge80
returns-then-i-ge80 c =
    let a = c.args in
    sym (watch_variable-past a.v a.watched.now c.if-i-ge80.true)

pub returns : goal.returns
returns c =
    let a = c.args in
    sym (watch_variable-in a.v a.watched.now c.if-i-ge80.false)
