-- The laws on one value of 4 bits, 1x0x, computed from the definitions. Assumes nothing.
use mathlib.Core.Path.{◌≡◌, refl}
use Rattle.values.specs.declared.Value.{Value}
use Rattle.values.specs.Values.{known, ones, all_unknown, holds}
use Rattle.values.specs.Operators.{possible, marked, between, outside, inverted, both, either, differing, certain, equal}
use Rattle.values.specs.Operators.{negated, unary, binary, agreed, choice}

abbrev v1x0x : Value
v1x0x = record { number = 8; unknown = 5 }

-- With 0111, and inverted: 0x0x, 1111, 1x1x, 0x1x.
pub sample-tables :
    (binary 3 4 v1x0x (known 7) ≡ record { number = 0; unknown = 5 })
    × (binary 4 4 v1x0x (known 7) ≡ known 15)
    × (binary 5 4 v1x0x (known 7) ≡ record { number = 10; unknown = 5 })
    × (unary 1 4 v1x0x ≡ record { number = 2; unknown = 5 })
unfolding unary binary both either differing between possible outside inverted marked known ones
sample-tables = (refl, refl, refl, refl)

-- Equal to 0111 it is not, and may be to 1000; added to 0111 it is unknown.
pub sample-arithmetic :
    (binary 8 4 v1x0x (known 7) ≡ known 0)
    × (binary 8 4 v1x0x (known 8) ≡ all_unknown 1)
    × (binary 6 4 v1x0x (known 7) ≡ all_unknown 4)
unfolding binary equal certain outside marked known all_unknown ones
sample-arithmetic = (refl, refl, refl)

-- It holds. 0110 and 0011 agree in their upper and their second bit: 0x1x.
pub sample-conditions :
    (unary 2 4 v1x0x ≡ known 0)
    × (unary 2 4 (record { number = 0; unknown = 5 }) ≡ all_unknown 1)
    × (choice v1x0x (known 6) (known 3) ≡ known 6)
    × (choice (all_unknown 4) (known 6) (known 3) ≡ record { number = 2; unknown = 5 })
unfolding unary negated choice agreed holds marked known all_unknown ones
sample-conditions = (refl, refl, refl, refl)
