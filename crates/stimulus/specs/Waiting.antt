-- What waits of a file in a buffer, from one place to another, as the file is read piece by piece.
use Rattle.std.specs.Prelude.{Bool, List, ℕ, ◌+◌, ◌-◌, length, get_or, ltb, leb, eqb}
use Rattle.values.specs.Values.{pick}
use Rattle.stimulus.specs.declared.Waiting.{Waiting}
use Rattle.stimulus.specs.declared.Waiting.TheVariants.{Whole, More, Long, Nothing}
use Rattle.stimulus.specs.Counting.{first_from}

-- ---- line_end: the first line end (10) from one place on, or the other place

unfoldable pub is_line_end : List ℕ → ℕ → Bool
is_line_end bytes i = eqb (get_or bytes i 0) 10

unfoldable pub line_end : List ℕ → ℕ → ℕ → ℕ
line_end bytes from to = first_from (is_line_end bytes) (to - from) from

-- ---- waiting: a line and where it ends; the last line of a file may have no line end

-- Where no whole line waits, the file is read on, but not where what waits is as long as the buffer: such a line is too long.
unfoldable pub unended : List ℕ → ℕ → ℕ → Waiting
unended bytes from to = pick (leb (from + length bytes) to) Long More

unfoldable pub waiting : List ℕ → ℕ → ℕ → Bool → Waiting
waiting bytes from to ended =
    pick (ltb (line_end bytes from to) to) (Whole (line_end bytes from to))
    (pick ended (pick (ltb from to) (Whole to) Nothing) (unended bytes from to))
