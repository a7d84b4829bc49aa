-- A line of the names file: a letter and a number name a variable (`i` inputs, `r` registers, `w` wires, each from 0, numbered in that
-- order); behind blanks its name, 1 to 31 letters, digits or `_`, the first no digit; then only blanks or a comment.
use Rattle.std.specs.Prelude.{false, ◌&&◌, Option, Some, None, List, ℕ, ◌+◌, ◌-◌, length, get_or, drop, ltb, leb}
use Rattle.values.specs.Values.{pick, ◌is◌then◌else◌}
use Rattle.stimulus.specs.declared.Class.TheVariants.{Blank, Word, Name}
use Rattle.stimulus.specs.declared.NameLine.{NameLine}
use Rattle.stimulus.specs.Counting.{found_below}
use Rattle.stimulus.specs.Words.{run_end, ended}
use Rattle.stimulus.specs.Numbers.{number_of}
use Rattle.stimulus.specs.Lines.{word_at}

-- ---- variable_of: the variable that a word names. There is none above 255.

unfoldable pub below : ℕ → ℕ → ℕ → ℕ
below from count n = pick (ltb n count) (from + n) 256

unfoldable pub variable_of : List ℕ → ℕ → ℕ → ℕ → ℕ
variable_of word inputs registers wires =
    let a = number_of false (drop 1 word) in
    pick (leb 2 (length word) && a.good)
    (get_or word 0 0 is 105 then below 0 inputs a.n else
    get_or word 0 0 is 114 then below inputs registers a.n else
    get_or word 0 0 is 119 then below (inputs + registers) wires a.n else
    256)
    256

-- A variable's number as a variable, and back: 256 where there is none.
abbrev pub variable_in : ℕ → Option ℕ
variable_in v = found_below 256 v

abbrev pub number_in : Option ℕ → ℕ
number_in None = 256
number_in (Some v) = v

-- ---- name_of: error 1 a blank line or a comment, 2 no such variable, 3 a name that is not allowed

abbrev pub name_line : ℕ → ℕ → ℕ → ℕ → ℕ → NameLine
name_line error column variable from to =
    record { error = error; column = column; variable = variable; from = from; to = to }

-- The name stands from one place to another: 0 if it is allowed and nothing follows, else 3.
unfoldable pub name_error : List ℕ → ℕ → ℕ → ℕ
name_error line from to =
    pick
    (ltb from to && leb (to - from) 31 && leb 58 (get_or line from 0) && ended line (run_end Blank line to))
    0
    3

-- A word from p to `to` names variable v.
unfoldable pub name_after : List ℕ → ℕ → ℕ → ℕ → NameLine
name_after line p to v =
    let from = run_end Blank line to in
    let end = run_end Name line from in
    pick (ltb v 256)
    (name_line (name_error line from end) (from + 1) v from end)
    (name_line 2 (p + 1) 0 from end)

unfoldable pub name_of : List ℕ → ℕ → ℕ → ℕ → NameLine
name_of line inputs registers wires =
    let p = run_end Blank line 0 in
    let to = run_end Word line p in
    pick (ended line p)
    (name_line 1 (p + 1) 0 p p)
    (name_after line p to (variable_of (word_at line p to) inputs registers wires))
