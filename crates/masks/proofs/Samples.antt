-- Samples, computed from the definitions. Assumes nothing.
use mathlib.Core.Path.{◌≡◌, refl}
use mathlib.Core.Bool.{true, false}
use mathlib.Core.List.{[], ◌∷◌}
use lib.ListN.{take}
use Rattle.masks.specs.Masks.{odd, bits, digits, mask, either, first, any_mark}

-- 5 is 101 in binary
pub sample-bits : take 4 (bits 5) ≡ true ∷ false ∷ true ∷ false ∷ []
unfolding bits digits odd
sample-bits = refl

pub sample-mask : mask (true ∷ false ∷ true ∷ []) ≡ 5
sample-mask = refl

pub sample-either :
    either (true ∷ false ∷ false ∷ []) (true ∷ true ∷ false ∷ []) ≡ true ∷ true ∷ false ∷ []
sample-either = refl

pub sample-first : first (false ∷ false ∷ true ∷ true ∷ []) ≡ 2
sample-first = refl

pub sample-first-none : first (bits 0) ≡ 32
unfolding bits digits odd
sample-first-none = refl

pub sample-any : any_mark (bits 8) ≡ true
unfolding bits digits odd
sample-any = refl

pub sample-none : any_mark (bits 0) ≡ false
unfolding bits digits odd
sample-none = refl
