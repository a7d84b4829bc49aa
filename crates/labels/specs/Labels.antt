-- A names file, line by line: a line gives a variable its name, or is blank. The first line that is wrong is told, and the names so far
-- stay.
use Rattle.std.specs.Prelude.{Bool, not, ◌&&◌, List, ℕ, zero, suc, length, ltb, eqb}
use Rattle.values.specs.Values.{pick, ◌is◌then◌else◌}
use Rattle.naming.specs.Naming.{name_of, renamed, same_text}
use Rattle.stimulus.specs.declared.NameLine.{NameLine}
use Rattle.stimulus.specs.Counting.{counted, first_from}
use Rattle.stimulus.specs.Lines.{word_at}
use Rattle.stimulus.specs.Waiting.{line_end}
use Rattle.stimulus.specs.Names.{name_of as line_names}
use Rattle.labels.specs.declared.Mark.{Mark}

-- ---- is_taken: is a name another variable's? The table has 80 rows.

unfoldable pub is_other : List ℕ → ℕ → List ℕ → ℕ → Bool
is_other names v name u = not (eqb u v) && same_text (name_of names u) name

unfoldable pub is_taken : List ℕ → ℕ → List ℕ → Bool
is_taken names v name = ltb (first_from (is_other names v name) 80 0) 80

-- ---- the names after a line, and what is wrong with it: 0 nothing, 2 no such variable, 3 a name that is not allowed, 4 another
-- variable has the name; with the line's number and the column

abbrev pub mark : ℕ → ℕ → ℕ → Mark
mark error line column = record { error = error; line = line; column = column }

abbrev pub right : Mark
right = mark 0 0 0

pub record Labelled : Type 0 where
  pub names : List ℕ
  pub mark : Mark

abbrev pub labelled : List ℕ → Mark → Labelled
labelled names m = record { names = names; mark = m }

-- A name for variable v.
unfoldable pub named : List ℕ → ℕ → List ℕ → ℕ → ℕ → Labelled
named names v name number column =
    pick (is_taken names v name) (labelled names (mark 4 number column)) (labelled (renamed names v name) right)

-- What a line holds, of number so; error 1 is a blank line or a comment.
unfoldable pub noted : List ℕ → ℕ → List ℕ → NameLine → Labelled
noted line number names p =
    p.error is 1 then labelled names right else
    p.error is 0 then named names p.variable (word_at line p.from p.to) number p.column else
    labelled names (mark p.error number p.column)

module _ (inputs registers wires : ℕ) where
  unfoldable pub line_taken : List ℕ → ℕ → List ℕ → Labelled
  line_taken line number names = noted line number names (line_names line inputs registers wires)

  -- ---- lines_taken: at most so many lines, from a place on

  unfoldable pub lines_from : List ℕ → ℕ → ℕ → ℕ → List ℕ → Labelled
  lines_from bytes zero from number names = labelled names right
  lines_from bytes (suc n) from number names =
      let end = line_end bytes from (length bytes) in
      let t = line_taken (word_at bytes from end) number names in
      pick (ltb from (length bytes))
      (pick (eqb t.mark.error 0) (lines_from bytes n (counted end) (counted number) t.names) t)
      (labelled names right)

  -- A file has no more lines than bytes.
  unfoldable pub lines_taken : List ℕ → List ℕ → Labelled
  lines_taken bytes names = lines_from bytes (length bytes) 0 1 names
