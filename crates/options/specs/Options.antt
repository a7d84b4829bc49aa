-- The words of a command line, taken one after the other. A slot keeps the number of the word that it is given by, from 1 on, and where it
-- takes a number, that number.
use Rattle.std.specs.Prelude.{Bool, false, ◌&&◌, List, [], ◌∷◌, ℕ, length, get_or, set, replicate, ltb, leb, eqb}
use Rattle.values.specs.Values.{pick, ◌is◌then◌else◌}
use Rattle.stimulus.specs.Counting.{counted}
use Rattle.stimulus.specs.Numbers.{number_of}
use Rattle.options.specs.declared.Options.{Options}
use Rattle.options.specs.Tables.{command_of, option_of, is_number, is_written}

abbrev pub options : ℕ → ℕ → ℕ → ℕ → ℕ → List ℕ → List ℕ → Options
options words command wants wrong fault value at =
    record { words = words; command = command; wants = wants; wrong = wrong; fault = fault; value = value; at = at }

-- ---- what a word changes

unfoldable pub nothing : Options
nothing = options 0 0 0 0 0 (replicate 40 0) (replicate 40 0)

-- One word more, which no slot wants any longer.
unfoldable pub advanced : Options → Options
advanced o = options (counted o.words) o.command 0 o.wrong o.fault o.value o.at

-- A slot is given by the last word. There are 40, of which number 0 is none.
unfoldable pub noted : Options → ℕ → Options
noted o slot =
    pick (ltb slot 40) (options o.words o.command o.wants o.wrong o.fault o.value (set o.at slot o.words)) o

-- A slot has a number.
unfoldable pub valued : Options → ℕ → ℕ → Options
valued o slot n =
    pick (ltb slot 40) (options o.words o.command o.wants o.wrong o.fault (set o.value slot n) o.at) o

-- A slot wants the next word.
unfoldable pub wanting : Options → ℕ → Options
wanting o slot = options o.words o.command slot o.wrong o.fault o.value o.at

-- The last word is out of place; the first such word counts. Faults: 1 no command, 2 no option, 3 no number, 4 one file too many, 5 an
-- option or inputs that do not go with the command, 6 a seed and the expressions, 7 a waveform or a state on standard output, 8 an option
-- at the end that wants a word, 9 two bases, 10 what does not go with the work, 11 with the expressions.
unfoldable pub misplaced : Options → ℕ → Options
misplaced o fault =
    o.wrong is 0 then options o.words o.command o.wants o.words fault o.value o.at else o

unfoldable pub with_command : Options → ℕ → Options
with_command o n = options o.words n o.wants o.wrong o.fault o.value o.at

-- ---- the word that a slot wants: a number is decimal and below 2^32, for `--every` not 0; any word names a file, but `-` (45) none that
-- is written

-- The least number that a slot takes.
unfoldable pub least_of : ℕ → ℕ
least_of slot = slot is 6 then 1 else 0

unfoldable pub numbered : Options → ℕ → List ℕ → Options
numbered o slot word =
    let a = number_of false word in
    length word is 0 then misplaced o 3 else
    pick a.good
    (pick (ltb a.n 4294967296)
    (pick (ltb a.n (least_of slot)) (misplaced o 3) (valued (noted o slot) slot a.n))
    (misplaced o 3))
    (misplaced o 3)

unfoldable pub is_dash : List ℕ → Bool
is_dash word = length word is 1 then eqb (get_or word 0 0) 45 else false

unfoldable pub is_barred : ℕ → List ℕ → Bool
is_barred slot word = pick (is_written slot) (is_dash word) false

unfoldable pub filled : Options → ℕ → List ℕ → Options
filled o slot word =
    pick (is_number slot) (numbered o slot word)
    (pick (is_barred slot word) (misplaced o 7)
    (noted o slot))

-- ---- a word that none wants: an option, or in turn the command, the sheet and the inputs

-- `-` alone names standard input.
unfoldable pub is_dashed : List ℕ → Bool
is_dashed word = leb 2 (length word) && eqb (get_or word 0 0) 45

-- A command by its number; help is one.
unfoldable pub named : Options → ℕ → Options
named o n =
    n is 0 then misplaced o 1 else
    n is 7 then noted o 33 else
    with_command o n

unfoldable pub placed : Options → List ℕ → Options
placed o word =
    o.command is 0 then named o (command_of word) else
    get_or o.at 30 0 is 0 then noted o 30 else
    get_or o.at 31 0 is 0 then noted o 31 else
    misplaced o 4

unfoldable pub fresh : Options → List ℕ → Options
fresh o word =
    let slot = option_of word in
    pick (ltb 19 slot) (noted o slot)
    (pick (ltb 0 slot) (wanting o slot)
    (pick (is_dashed word) (misplaced o 2)
    (placed o word)))

-- ---- taken: one word; taken_all: all words

unfoldable pub taken : Options → List ℕ → Options
taken o word = o.wants is 0 then fresh (advanced o) word else filled (advanced o) o.wants word

unfoldable pub taken_all : Options → List (List ℕ) → Options
taken_all o [] = o
taken_all o (w ∷ ws) = taken_all (taken o w) ws
