-- `binary_text::put_value` meets its contract. Assumes nothing.
use Rattle.values.specs.Planes.{number_of, marks_of}
use Rattle.binary_text.specs.BinaryText.{bits_of}
use Rattle.binary_text.proofs.put_value.Goals as goal

pub returns : goal.returns
unfolding bits_of number_of marks_of
returns c =
    c.put_bits.ensures
