-- `stimulus::admitted` meets its contract. Assumes nothing.
use mathlib.Core.Path.{sym, ◌∙◌}
use Rattle.stimulus.proofs.Lines.{admitted-wide, admitted-is}
use Rattle.stimulus.proofs.admitted.Goals as goal

pub returns-then-not-fits : goal.returns-then-not-fits
returns-then-not-fits c =
    c.faulty.ensures ∙ admitted-wide _ _ (sym c.fits.ensures ∙ c.if-not-fits.true)

pub returns : goal.returns
returns c =
    rw (c.marks_of.ensures, c.number_of.ensures) (admitted-is _ _ (sym c.fits.ensures ∙ c.if-not-fits.false))
