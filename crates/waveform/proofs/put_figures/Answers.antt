-- `waveform::put_figures` meets its contract. Assumes nothing.
use mathlib.Core.Path.{sym, ◌∙◌}
use Rattle.values.specs.Planes.{number_of}
use Rattle.waveform.specs.Waveform.{figures}
use borrow.Author.Rules.{rules}
use Rattle.waveform.proofs.put_figures.Goals as goal

pub returns-then-is_known : goal.returns-then-is_known
unfolding figures number_of
returns-then-is_known c =
    rw (sym c.is_known.ensures ∙ c.if-is_known.true) c.put_shortened.ensures

pub returns-then-is_x : goal.returns-then-is_x
unfolding figures
returns-then-is_x c =
    rw (sym c.is_known.ensures ∙ c.if-is_known.false, sym c.is_x.ensures ∙ c.if-is_x.true) c.put_byte.ensures

pub returns : goal.returns
unfolding figures
returns c =
    rw (sym c.is_known.ensures ∙ c.if-is_known.false, sym c.is_x.ensures ∙ c.if-is_x.false) c.put_value.ensures
