-- Samples, computed: values with and without marks. Assumes nothing.
use mathlib.Core.Path.{◌≡◌, refl}
use mathlib.Core.Bool.{true, false}
use Rattle.values.specs.Values.{known, ones, all_unknown}
use Rattle.values.specs.Planes.{number_of, marks_of}
use Rattle.writing.specs.Ascii.{ascii}
use Rattle.binary_text.specs.BinaryText.{bit, bits, bits_of, is_known, is_x}

-- 5 in 4 bits, 1x0, and x in 3 bits; behind a width nothing is shown.
pub samples :
    (bits_of 4 (known 5) ≡ ascii "0101") × (bits 3 4 2 ≡ ascii "1x0") × (bits_of 3 (all_unknown 3) ≡ ascii "xxx") ×
    (bits 2 5 8 ≡ ascii "01")
unfolding bits_of bits bit known all_unknown ones number_of marks_of ascii
samples = (refl, refl, refl, refl)

pub sorts :
    (is_known (known 5) ≡ true) × (is_known (record { number = 4; unknown = 2 }) ≡ false) × (is_x 3 (all_unknown 3) ≡ true) ×
    (is_x 3 (record { number = 4; unknown = 2 }) ≡ false) × (is_x 4 (all_unknown 3) ≡ false)
unfolding is_known is_x known all_unknown ones marks_of
sorts = (refl, refl, refl, refl, refl)
