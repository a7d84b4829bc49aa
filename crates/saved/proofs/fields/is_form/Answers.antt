-- `saved::fields::is_form` meets its contract, test by test. Assumes nothing.
use mathlib.Core.Path.{sym}
use borrow.Author.Tests.{eq-eqb, ne_eqb}
use Rattle.saved.specs.Saved.{is_form}
use Rattle.saved.proofs.fields.is_form.Goals as goal

pub returns-then-bytes-size : goal.returns-then-bytes-size
unfolding is_form
returns-then-bytes-size c =
    rw (eq-eqb _ _ c.if-bytes-size.true, c.byte_at.ensures)

pub returns-else-bytes-size : goal.returns-else-bytes-size
unfolding is_form
returns-else-bytes-size c =
    sym (rw (ne_eqb _ _ c.if-bytes-size.false))
