-- Rows, computed: the clock in the place of a row's first item, two instants to a row.
use mathlib.Core.Path.{◌≡◌, refl}
use mathlib.Core.List.{List, [], ◌∷◌, ◌++◌}
use Prim.Native.Nat.{ℕ}
use lib.ListN.{replicate}
use Rattle.events.specs.declared.Inputs.{Inputs}
use Rattle.batch.specs.Cycles.{row_from, row_inputs}

-- Two rows; a 9 stands where the clock's item is.
abbrev two-rows : List ℕ
two-rows = (9 ∷ 1 ∷ 2 ∷ replicate 13 0) ++ (9 ∷ 3 ∷ 4 ∷ replicate 13 0)

-- The second row's first two items have unknown bits, that of the clock among them.
abbrev some-marks : List ℕ
some-marks = replicate 16 0 ++ (1 ∷ 4 ∷ replicate 14 0)

abbrev instant-of : ℕ → ℕ → ℕ → ℕ → Inputs
instant-of clock a b x =
    record { count = 3; value = clock ∷ a ∷ b ∷ replicate 13 0; unknown = 0 ∷ x ∷ replicate 14 0 }

pub first-row :
    (row_inputs 3 two-rows some-marks 0 ≡ instant-of 0 1 2 0) × (row_inputs 3 two-rows some-marks 1 ≡ instant-of 1 1 2 0)
unfolding row_inputs row_from
first-row = (refl, refl)

pub second-row :
    (row_inputs 3 two-rows some-marks 2 ≡ instant-of 0 3 4 4) × (row_inputs 3 two-rows some-marks 3 ≡ instant-of 1 3 4 4)
unfolding row_inputs row_from
second-row = (refl, refl)
