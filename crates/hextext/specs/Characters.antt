-- The characters of a sheet given as hex text, and how such a text is told from a sheet's own bytes.
use Rattle.std.specs.Prelude.{Bool, false, ◌||◌, List, [], ◌∷◌, ℕ, ◌-◌, ltb, eqb}
use Rattle.values.specs.Values.{pick}

-- ---- below then else: a row of a table that goes by ranges

infixr 5 ◌below◌then◌else◌
abbrev pub ◌below◌then◌else◌ : {A : Type 0} → ℕ → ℕ → A → A → A
◌below◌then◌else◌ b k x y = pick (ltb b k) x y

-- ---- digit_of: the value of a hex digit, 0 to 9, A to F or a to f; 16 for another character

unfoldable pub digit_of : ℕ → ℕ
digit_of b =
    b below 48 then 16 else
    b below 58 then b - 48 else
    b below 65 then 16 else
    b below 71 then b - 55 else
    b below 97 then 16 else
    b below 103 then b - 87 else
    16

unfoldable pub is_digit : ℕ → Bool
is_digit b = ltb (digit_of b) 16

-- ---- is_blank: a space, a tab or CR

unfoldable pub is_blank : ℕ → Bool
is_blank b = eqb b 32 || eqb b 9 || eqb b 13

-- ---- is_gap: a blank or a line end (LF, 10)

unfoldable pub is_gap : ℕ → Bool
is_gap b = eqb b 10 || is_blank b

-- ---- is_text: is the first character that is neither a blank nor a line end a hex digit or `#` (35)?

unfoldable pub is_text : List ℕ → Bool
is_text [] = false
is_text (b ∷ bs) = eqb b 35 || is_digit b || pick (is_gap b) (is_text bs) false
