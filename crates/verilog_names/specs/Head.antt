-- The head of a text's sheet, from the tables: the four counts, and the widths in the order of the variables' numbers.
use Rattle.std.specs.Prelude.{List, [], ◌∷◌, ℕ, get_or}
use Rattle.verilog_grammar.specs.Meaning.{up_to}
use Rattle.verilog_names.specs.Chosen.{count_of}
use Rattle.verilog_names.specs.Numbers.{ordered}

-- Widths stand in their table as they are written.
unfoldable pub widths_of : List ℕ → List ℕ → List ℕ
widths_of widths [] = []
widths_of widths (t ∷ ts) = get_or widths t 0 ∷ widths_of widths ts

-- "a count or width past 01's range is written as 255"
unfoldable pub head_of : List ℕ → List ℕ → ℕ → List ℕ
head_of roles widths n =
    up_to 16 (count_of roles n 1) ∷ up_to 32 (count_of roles n 2) ∷ up_to 32 (count_of roles n 3) ∷ up_to 8 (count_of roles n 5) ∷
    widths_of widths (ordered roles n)
