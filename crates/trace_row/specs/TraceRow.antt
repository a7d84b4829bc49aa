-- A row of a trace has 88 words: the cells of the 80 variables, in the sheet's numbering, and behind them the places of the eight
-- threads. A word past a row's end counts as 0: a variable there has the number 0 (`cell_at` of values), a thread there place 0.
use Rattle.std.specs.Prelude.{List, ℕ, ◌+◌, ◌*◌, get_or, take, drop}

-- ---- place_in: the place of thread i

unfoldable pub place_in : List ℕ → ℕ → ℕ
place_in row i = get_or row (80 + i) 0

-- ---- row_of: row r of a trace, the part of it that the trace has

unfoldable pub row_of : List ℕ → ℕ → List ℕ
row_of trace r = take 88 (drop (r * 88) trace)
