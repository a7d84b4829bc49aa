-- A run as a table of text: a line a cycle, a column a variable. The columns are right-aligned with two blanks before each, or stand
-- behind commas.
use Rattle.std.specs.Prelude.{ℕ, zero, suc, ◌+◌, ◌-◌, ◌/◌, ◌%◌, Bool, true, false, List, [], ◌∷◌, ◌++◌, length, get_or, replicate, ltb, eqb}
use Rattle.values.specs.declared.Value.{Value}
use Rattle.values.specs.Values.{pick, ◌is◌then◌else◌, ones}
use Rattle.values.specs.Planes.{number_of}
use Rattle.writing.specs.Ascii.{ascii, byte}
use Rattle.writing.specs.Numbers.{decimal}
use Rattle.naming.specs.Naming.{name_of}
use Rattle.binary_text.specs.BinaryText.{bits, bits_of, is_known, is_x}
use Rattle.tabulate.specs.declared.Form.{Form}

-- ---- numbered: a number; in base 16 and in base 2 with all figures of so many bits, zeros in front, else in decimal

-- 0 to 9, a to f.
unfoldable pub figure : ℕ → ℕ
figure n = pick (ltb n 10) (byte "0" + n) (87 + n)

-- The last k figures of a number in base 16.
unfoldable pub figures : ℕ → ℕ → List ℕ
figures zero n = []
figures (suc k) n = figures k (n / 16) ++ (figure (n % 16) ∷ [])

unfoldable pub numbered : ℕ → ℕ → ℕ → List ℕ
numbered base w n =
    base is 16 then figures ((w + 3) / 4) n else
    base is 2 then bits w n 0 else
    decimal n

-- ---- shown: a value of w bits: its number where it is known, x where no bit is, else its bits, in base 10 and 16 behind a b

unfoldable pub lead : ℕ → List ℕ
lead base = base is 2 then [] else (byte "b" ∷ [])

unfoldable pub shown : ℕ → ℕ → Value → List ℕ
shown base w a =
    pick (is_known a) (numbered base w (number_of a))
    (pick (is_x w a) (byte "x" ∷ []) (lead base ++ bits_of w a))

-- ---- column_width: the longer of the name and the largest number that fits; x takes one place. A value with some unknown bits is rare
-- and can take more: then it stands as it is.

unfoldable pub longer : ℕ → ℕ → ℕ
longer a b = pick (ltb a b) b a

unfoldable pub places : ℕ → ℕ → ℕ
places base w =
    base is 16 then longer 1 ((w + 3) / 4) else
    base is 2 then longer 1 w else
    length (decimal (ones w))

unfoldable pub column_width : ℕ → List ℕ → List ℕ → ℕ → ℕ
column_width base widths names v = longer (length (name_of names v)) (places base (get_or widths v 0))

-- ---- cell: a text behind a comma, or behind two blanks at the right of n places, where a longer one stands as it is

unfoldable pub aligned : ℕ → List ℕ → List ℕ
aligned n t = replicate (n - length t) (byte " ") ++ t

-- What stands in front of a text of k bytes.
unfoldable pub gap : Bool → ℕ → ℕ → List ℕ
gap csv n k = pick csv (ascii ",") (ascii "  " ++ replicate (n - k) (byte " "))

unfoldable pub cell : Bool → ℕ → List ℕ → List ℕ
cell csv n t = gap csv n (length t) ++ t

-- ---- the first column: the cycle in decimal, 8 places wide

unfoldable pub cycle_title : Bool → List ℕ
cycle_title csv = pick csv (ascii "cycle") (ascii "   cycle")

unfoldable pub cycle_cell : Bool → ℕ → List ℕ
cycle_cell csv n = pick csv (decimal n) (aligned 8 (decimal n))

-- ---- the columns of a list of variables. `new` has their values.

unfoldable pub title : Form → List ℕ → List ℕ → ℕ → List ℕ
title form widths names v = cell form.csv (column_width form.base widths names v) (name_of names v)

unfoldable pub entry : Form → List ℕ → List ℕ → (ℕ → Value) → ℕ → List ℕ
entry form widths names new v =
    cell form.csv (column_width form.base widths names v) (shown form.base (get_or widths v 0) (new v))

unfoldable pub columns : (ℕ → List ℕ) → List ℕ → List ℕ
columns column [] = []
columns column (v ∷ vs) = column v ++ columns column vs

-- ---- head_line: the titles; line: cycle n

unfoldable pub head_line : Form → List ℕ → List ℕ → List ℕ → List ℕ
head_line form widths names vs = cycle_title form.csv ++ (columns (title form widths names) vs ++ ascii "\n")

unfoldable pub line : Form → List ℕ → List ℕ → List ℕ → ℕ → (ℕ → Value) → List ℕ
line form widths names vs n new = cycle_cell form.csv n ++ (columns (entry form widths names new) vs ++ ascii "\n")

-- ---- is_chosen: the cycles from one to another, every so many; every 0 is every one

unfoldable pub is_chosen : ℕ → ℕ → ℕ → ℕ → Bool
is_chosen from to every n =
    pick (ltb n from) false (pick (ltb to n) false (every is 0 then true else eqb ((n - from) % every) 0))
