-- The tables of the command line: the words of commands and options, and which option goes with which command.
-- Slots: from 1 on the options that take the next word, from 20 on those that stand alone, 30 the module, 31 the inputs, from 32 on the
-- options that go with every command: 32 the status, 33 help, 34 the version; 35 the work, which stands alone too.
use Rattle.std.specs.Prelude.{Bool, true, false, not, ◌&&◌, ◌||◌, List, [], ◌∷◌, ℕ, ◌+◌, length, get_or, ltb, eqb}
use Prim.Native.String.{String}
use Rattle.values.specs.Values.{pick, ◌is◌then◌else◌}
use Rattle.writing.specs.Ascii.{ascii}

-- ---- among: which word of a line it is, counted on from a number, 0 where it is none; a blank (32) stands behind each word of the line

-- Is byte n of a word this one?
unfoldable pub agrees : List ℕ → ℕ → ℕ → Bool
agrees word n b = ltb n (length word) && eqb (get_or word n 0) b

-- What a byte of the line makes of the word that it stands in: is that the one, with all its bytes; do the bytes so far agree; how many
-- are there; and how many words are passed.
unfoldable pub is_found : List ℕ → ℕ → Bool → ℕ → Bool
is_found word n same b = b is 32 then (same && eqb n (length word)) else false

unfoldable pub goes_on : List ℕ → ℕ → Bool → ℕ → Bool
goes_on word n same b = b is 32 then true else (same && agrees word n b)

unfoldable pub lettered : ℕ → ℕ → ℕ
lettered n b = b is 32 then 0 else n + 1

unfoldable pub ended : ℕ → ℕ → ℕ
ended k b = b is 32 then k + 1 else k

-- The rest of a line, where k words are passed, and n bytes of the next.
unfoldable pub among_from : List ℕ → ℕ → ℕ → Bool → List ℕ → ℕ
among_from word k n same [] = 0
among_from word k n same (b ∷ bs) =
    pick (is_found word n same b) (k + 1) (among_from word (ended k b) (lettered n b) (goes_on word n same b) bs)

unfoldable pub among : List ℕ → ℕ → String → ℕ
among word base line = among_from word base 0 true (ascii line)

-- ---- command_of: a command's number, 0 for any other word

unfoldable pub command_of : List ℕ → ℕ
command_of w = among w 0 "list check run extract compare verilog help explain "

-- ---- option_of: an option's slot, 0 for any other word

-- Those that take the next word.
unfoldable pub valued_option : List ℕ → ℕ
valued_option w =
    among w 0 "--vcd --names --seed --from --to --every --only --expect --user --allowance --save --load --init "

-- Those that stand alone.
unfoldable pub lone_option : List ℕ → ℕ
lone_option w =
    among w 19 "--by-expressions --wires --last --dot --progress --any-order --inputs --hex --binary --csv "

-- Those that go with every command, the work, and two of them in short.
unfoldable pub plain_option : List ℕ → ℕ
plain_option w = among w 31 "--status --help --version --work "

unfoldable pub short_option : List ℕ → ℕ
short_option w = among w 32 "-h -V "

-- The first of two slots that is one.
unfoldable pub either : ℕ → ℕ → ℕ
either a b = a is 0 then b else a

unfoldable pub option_of : List ℕ → ℕ
option_of w = either (valued_option w) (either (lone_option w) (either (plain_option w) (short_option w)))

-- ---- is_number: `--seed`, `--from`, `--to`, `--every` and `--user` take a number

unfoldable pub is_number : ℕ → Bool
is_number slot = slot is 9 then true else (ltb 2 slot && ltb slot 7)

-- ---- is_written: `--vcd` and `--save` name a file that is written

unfoldable pub is_written : ℕ → Bool
is_written slot = eqb slot 1 || eqb slot 11

-- ---- goes_with: slots 30 and 32 up go with all commands, names with run, extract and explain, a graph with extract, the others with run

unfoldable pub is_fed : ℕ → Bool
is_fed command = eqb command 3 || eqb command 5

unfoldable pub is_named : ℕ → Bool
is_named command = eqb command 3 || (eqb command 4 || eqb command 8)

unfoldable pub goes_with : ℕ → ℕ → Bool
goes_with command slot =
    slot is 2 then is_named command else
    slot is 23 then eqb command 4 else
    slot is 31 then is_fed command else
    slot is 35 then eqb command 3 else
    pick (ltb slot 30) (eqb command 3) true

-- ---- goes_beside: what goes with a run by its kind. The work (kind 10) is counted of the plain run, in a table that has no variables: no
-- seed and no expressions, no waveform, no columns. A run by the expressions (kind 11) has no state by events that could be saved.

-- Where the choices come from, which columns there are.
unfoldable pub is_course : ℕ → Bool
is_course slot = eqb slot 3 || eqb slot 20

unfoldable pub is_column : ℕ → Bool
is_column slot = eqb slot 7 || (eqb slot 21 || eqb slot 26)

unfoldable pub goes_beside : ℕ → ℕ → Bool
goes_beside kind slot =
    kind is 10 then not (is_course slot || (eqb slot 1 || is_column slot)) else
    kind is 11 then not (eqb slot 11) else
    true
