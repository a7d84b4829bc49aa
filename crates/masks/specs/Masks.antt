-- Sets of up to 32 marks, kept as the binary digits of a number.
use Rattle.std.specs.Prelude.{Bool, true, false, ◌||◌, List, [], ◌∷◌, ℕ, zero, suc, ◌+◌, ◌*◌, ◌/◌, ◌%◌, eqb}

-- ---- bits: the 32 binary digits of a number, lowest first

unfoldable pub odd : ℕ → Bool
odd n = eqb (n % 2) 1

-- the w lowest
unfoldable pub digits : ℕ → ℕ → List Bool
digits zero n = []
digits (suc w) n = odd n ∷ digits w (n / 2)

unfoldable pub bits : ℕ → List Bool
bits n = digits 32 n

-- ---- mask: the number of given binary digits

abbrev pub digit : Bool → ℕ
digit false = 0
digit true = 1

abbrev pub mask : List Bool → ℕ
mask [] = 0
mask (b ∷ bs) = mask bs * 2 + digit b

-- ---- either: the marks of two lists. Past the end of the shorter one, those of the longer.

abbrev pub either : List Bool → List Bool → List Bool
either [] ys = ys
either (x ∷ xs) [] = x ∷ xs
either (x ∷ xs) (y ∷ ys) = (x || y) ∷ either xs ys

-- ---- first: the place of the first mark, or the length where there is none

abbrev pub first : List Bool → ℕ
first [] = zero
first (true ∷ bs) = zero
first (false ∷ bs) = suc (first bs)

-- ---- any_mark: is some mark up?

abbrev pub any_mark : List Bool → Bool
any_mark [] = false
any_mark (b ∷ bs) = b || any_mark bs
