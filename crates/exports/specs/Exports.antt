-- What the exported functions answer of a sheet that was read, or refused.
use Rattle.std.specs.Prelude.{ℕ}
use Rattle.sheet.specs.Reading.{Res, ok, no}

-- Document 01's number, 0 where there is none.
unfoldable pub number_of : {A : Type 0} → Res A → ℕ
number_of (ok a) = 0
number_of (no n p) = n

-- The place of the refusal, 0 where there is none.
unfoldable pub place_of : {A : Type 0} → Res A → ℕ
place_of (ok a) = 0
place_of (no n p) = p
