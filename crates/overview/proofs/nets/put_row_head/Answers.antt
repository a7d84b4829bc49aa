-- `overview::nets::put_row_head` meets its contract. Assumes nothing.
use borrow.Author.Rules.{rules}
use mathlib.Core.Path.{sym}
use borrow.Author.Tests.{eq-eqb, ne_eqb, lt-ltb, le-ltb}
use Rattle.writing.proofs.Buffer.{puts-nil}
use Rattle.overview.specs.Shown.{row_head}
use Rattle.overview.proofs.nets.put_row_head.Goals as goal

pub returns-then-e-ne0 : goal.returns-then-e-ne0
unfolding row_head
returns-then-e-ne0 c =
    rw (ne_eqb _ _ c.if-e-ne0.true) (sym (puts-nil _))

pub returns-then-k-ge32 : goal.returns-then-k-ge32
unfolding row_head
returns-then-k-ge32 c =
    rw (eq-eqb _ _ c.if-e-ne0.false, le-ltb _ _ c.if-k-ge32.true) (sym (puts-nil _))

pub returns : goal.returns
unfolding row_head
returns c =
    rw (eq-eqb _ _ c.if-e-ne0.false, lt-ltb _ _ c.if-k-ge32.false) c.put_head.ensures
