-- Rows of inputs, 16 to a row, that a caller lends for many cycles in one call: numbers, and for each the marks of its unknown bits.
use Rattle.std.specs.Prelude.{ℕ, ◌%◌, Bool, ◌&&◌, List, length, eqb}

-- 25: "input values of wrong number". Rows are whole where the numbers fill them and each has its marks; the same goes for them
-- as for a sheet, "read whole or refused".
unfoldable pub whole_rows : List ℕ → List ℕ → Bool
whole_rows ns us = eqb (length ns % 16) 0 && eqb (length us) (length ns)
