-- `drawing::put_bit` meets its contract. Assumes nothing.
use mathlib.Core.Path.{◌∙◌, sym}
use Rattle.values.specs.Planes.{number_of}
use Rattle.drawing.specs.Drawing.{bit_stretch}
use Rattle.drawing.proofs.put_bit.Goals as goal

pub returns-then-is_known : goal.returns-then-is_known
unfolding bit_stretch number_of
returns-then-is_known c =
    rw (sym c.is_known.ensures ∙ c.if-is_known.true) c.put_level.ensures

pub returns : goal.returns
unfolding bit_stretch
returns c =
    rw (sym c.is_known.ensures ∙ c.if-is_known.false) c.put_unknown.ensures
