-- `fitting::rows_whole` meets its contract. Assumes nothing.
use mathlib.Core.Path.{refl}
use borrow.Author.Tests.{eq-eqb, ne_eqb}
use Prim.Native.Nat.{◌%◌}
use lib.ListN.{length}
use Rattle.events.specs.Rows.{whole_rows}
use Rattle.fitting.proofs.rows_whole.Goals as goal

pub returns-then-value-eq0 : goal.returns-then-value-eq0
unfolding whole_rows
returns-then-value-eq0 c =
    let a = c.args in rw (eq-eqb (length a.value.now % 16) 0 c.if-value-eq0.true) refl

pub returns-else-value-eq0 : goal.returns-else-value-eq0
unfolding whole_rows
returns-else-value-eq0 c =
    let a = c.args in rw (ne_eqb (length a.value.now % 16) 0 c.if-value-eq0.false)
