-- `binary_text::is_known` meets its contract. Assumes nothing.
use mathlib.Core.Path.{refl}
use Rattle.values.specs.Planes.{marks_of}
use Rattle.binary_text.specs.BinaryText.{is_known}
use Rattle.binary_text.proofs.is_known.Goals as goal

pub returns : goal.returns
unfolding is_known marks_of
returns c =
    refl
