-- Numbers as text.
use Rattle.std.specs.Prelude.{ℕ, zero, suc, ◌+◌, ◌/◌, ◌%◌, List, [], ◌∷◌, ◌++◌, ltb}
use Rattle.values.specs.Values.{pick}
use Rattle.writing.specs.Ascii.{byte}

-- The byte of a digit.
abbrev pub digit : ℕ → ℕ
digit n = byte "0" + n

-- The last so many digits of a number, with no zero in front.
unfoldable pub digits : ℕ → ℕ → List ℕ
digits zero n = []
digits (suc f) n = pick (ltb n 10) (digit n ∷ []) (digits f (n / 10) ++ (digit (n % 10) ∷ []))

-- A number in decimal: 20 digits are enough for one of 64 bits.
unfoldable pub decimal : ℕ → List ℕ
decimal n = digits 20 n
