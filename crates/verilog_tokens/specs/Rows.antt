-- A table of words as a text holds it: a line for each.
use Rattle.std.specs.Prelude.{List, [], ◌∷◌, ℕ, zero, suc, length, take, drop}
use Rattle.values.specs.Values.{pick}
use Rattle.naming.specs.Naming.{same_text}
use Rattle.verilog_tokens.specs.declared.Class.TheVariants.{Comment}
use Rattle.verilog_tokens.specs.Characters.{span}

-- The first so many lines of a text.
unfoldable pub rows_by : ℕ → List ℕ → List (List ℕ)
rows_by zero s = []
rows_by (suc f) [] = []
rows_by (suc f) (b ∷ s) =
    let n = span Comment (b ∷ s) in
    take n (b ∷ s) ∷ rows_by f (drop (suc n) (b ∷ s))

-- All of them: no text has more lines than bytes.
unfoldable pub rows_of : List ℕ → List (List ℕ)
rows_of s = rows_by (length s) s

-- The place of the first row that is such a word; the number of rows where none is.
unfoldable pub row_in : List (List ℕ) → List ℕ → ℕ
row_in [] w = 0
row_in (v ∷ vs) w = pick (same_text v w) 0 (suc (row_in vs w))
