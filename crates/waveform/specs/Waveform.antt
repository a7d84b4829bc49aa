-- A run as a value change dump (VCD, IEEE 1364-2005, clause 18): the header, time lines, values and changes.
use Rattle.std.specs.Prelude.{ℕ, zero, suc, ◌+◌, ◌/◌, ◌%◌, List, [], ◌∷◌, ◌++◌, map, get_or, ltb, eqb}
use Rattle.values.specs.declared.Value.{Value}
use Rattle.values.specs.Values.{pick, same}
use Rattle.values.specs.Planes.{number_of}
use Rattle.writing.specs.Ascii.{ascii, byte}
use Rattle.writing.specs.Numbers.{digit, decimal}
use Rattle.naming.specs.Naming.{name_of, within, texts}
use Rattle.binary_text.specs.BinaryText.{bits_of, is_known, is_x}
use Rattle.waveform.specs.declared.Counts.{Counts}

-- A variable's identifier code is one character: !, ", #, ..
abbrev pub ident : ℕ → ℕ
ident v = byte "!" + v

-- ---- the header: "$var var_type size identifier_code reference $end"

-- Registers are reg, inputs and wires are wire.
unfoldable pub kind_of : ℕ → ℕ → ℕ → List ℕ
kind_of inputs registers v =
    pick (ltb v inputs) (ascii "wire") (pick (ltb v (inputs + registers)) (ascii "reg") (ascii "wire"))

unfoldable pub declaration : List ℕ → List ℕ → ℕ → ℕ → ℕ → List ℕ
declaration widths names inputs registers v =
    ascii "$var "
    ++ (kind_of inputs registers v
    ++ ((byte " " ∷ decimal (get_or widths v 0))
    ++ ((byte " " ∷ [])
    ++ ((ident v ∷ [])
    ++ ((byte " " ∷ [])
    ++ (name_of names v
    ++ ascii " $end\n"))))))

unfoldable pub declarations : List ℕ → List ℕ → ℕ → ℕ → ℕ → List ℕ
declarations widths names inputs registers n = texts (declaration widths names inputs registers) (within n) 0

-- The module's file is named in a comment. "$end" would end it, so `$` is shown as `_` there, and so is a byte below the blank.
unfoldable pub comment_byte : ℕ → ℕ
comment_byte b = pick (ltb b 32) (byte "_") (pick (eqb b (byte "$")) (byte "_") b)

unfoldable pub front : List ℕ → List ℕ
front file =
    ascii "$version Walbryts $end\n$comment "
    ++ (map comment_byte file
    ++ ascii " $end\n$timescale 1 ns $end\n$scope module walbryts $end\n")

unfoldable pub header : List ℕ → List ℕ → Counts → List ℕ → List ℕ
header widths names m file =
    front file
    ++ (declarations widths names m.inputs m.registers (m.inputs + m.registers + m.wires)
    ++ ascii "$upscope $end\n$enddefinitions $end\n")

-- ---- a time: "# decimal_number"

unfoldable pub time_line : ℕ → List ℕ
time_line t = (byte "#" ∷ decimal t) ++ (byte "\n" ∷ [])

-- ---- a value: a bit is its figure and the code; more bits are b, the figures, most significant first, a space and the code. A known
-- value is written without zeros in front ("left-extended" by 0 when read), one figure stays. One x stands for x in all bits
-- ("left-extended" by x). Else there is a figure for each bit.

-- At most so many figures of a number, the lowest where it has more.
unfoldable pub shortened : ℕ → ℕ → List ℕ
shortened zero n = []
shortened (suc w) n = pick (ltb n 2) (digit n ∷ []) (shortened w (n / 2) ++ (digit (n % 2) ∷ []))

unfoldable pub figures : ℕ → Value → List ℕ
figures w a = pick (is_known a) (shortened w (number_of a)) (pick (is_x w a) (byte "x" ∷ []) (bits_of w a))

unfoldable pub value_line : ℕ → ℕ → Value → List ℕ
value_line w v a =
    pick (eqb w 1)
    (figures w a ++ (ident v ∷ byte "\n" ∷ []))
    ((byte "b" ∷ []) ++ (figures w a ++ ((byte " " ∷ []) ++ (ident v ∷ byte "\n" ∷ []))))

-- ---- the values of all variables, and of those that differ. `old` and `new` are the values of the variables.

unfoldable pub value_of : List ℕ → (ℕ → Value) → ℕ → List ℕ
value_of widths new v = value_line (get_or widths v 0) v (new v)

unfoldable pub all_values : List ℕ → ℕ → (ℕ → Value) → List ℕ
all_values widths n new = ascii "$dumpvars\n" ++ (texts (value_of widths new) (within n) 0 ++ ascii "$end\n")

-- Values compare as values.
unfoldable pub change_of : List ℕ → (ℕ → Value) → (ℕ → Value) → ℕ → List ℕ
change_of widths old new v = pick (same (old v) (new v)) [] (value_of widths new v)

unfoldable pub changes : List ℕ → ℕ → (ℕ → Value) → (ℕ → Value) → List ℕ
changes widths n old new = texts (change_of widths old new) (within n) 0
