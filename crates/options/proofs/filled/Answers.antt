-- `options::filled` meets its contract. Assumes nothing.
use mathlib.Core.Path.{sym, ◌∙◌}
use Rattle.options.specs.Options.{filled}
use Rattle.options.proofs.filled.Goals as goal

pub returns-then-is_number : goal.returns-then-is_number
unfolding filled
returns-then-is_number c =
    rw (sym c.is_number.ensures ∙ c.if-is_number.true) c.numbered.ensures

pub returns-then-is_barred : goal.returns-then-is_barred
unfolding filled
returns-then-is_barred c =
    rw (
      sym c.is_number.ensures ∙ c.if-is_number.false,
      sym c.is_barred.ensures ∙ c.if-is_barred.true,
    )
    c.misplaced.ensures

pub returns : goal.returns
unfolding filled
returns c =
    rw (
      sym c.is_number.ensures ∙ c.if-is_number.false,
      sym c.is_barred.ensures ∙ c.if-is_barred.false,
    )
    c.noted.ensures
