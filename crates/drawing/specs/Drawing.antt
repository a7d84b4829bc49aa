-- A run as a drawing (SVG 1.1): a lane a variable, its name at the left, the cycles from left to right, two halves each, the clock low and
-- high. A value stands from the half where it begins to the half where another one does.
use Rattle.std.specs.Prelude.{ℕ, zero, suc, ◌+◌, ◌-◌, ◌*◌, ◌/◌, ◌%◌, Bool, true, not, List, [], ◌∷◌, ◌++◌, length, get_or, ltb, eqb}
use Rattle.values.specs.declared.Value.{Value}
use Rattle.values.specs.Values.{pick, ◌is◌then◌else◌, same}
use Rattle.values.specs.Planes.{number_of}
use Rattle.values.specs.Cells.{cell_at}
use Rattle.writing.specs.Ascii.{ascii}
use Rattle.writing.specs.Numbers.{decimal}
use Rattle.naming.specs.Naming.{name_of, within, texts}
use Rattle.trace_row.specs.TraceRow.{row_of}
use Rattle.binary_text.specs.BinaryText.{is_known}
use Rattle.tabulate.specs.Tabulate.{shown, longer, places, columns}
use Rattle.drawing.specs.declared.Drawing.{Drawing}

-- ---- drawing_of: the measures, in pixels. A half is so wide that each number of a variable fits into a cycle, the names' column as the
-- longest name needs it; what has more than 40 characters does not make them wider. At most 128 cycles are drawn.

-- The largest of a number and those of a list of variables.
unfoldable pub largest : (ℕ → ℕ) → ℕ → List ℕ → ℕ
largest size m [] = m
largest size m (v ∷ vs) = largest size (longer m (size v)) vs

unfoldable pub capped : ℕ → ℕ → ℕ
capped most n = pick (ltb most n) most n

unfoldable pub value_size : ℕ → List ℕ → ℕ → ℕ
value_size base widths v = places base (get_or widths v 0)

-- A name, and behind that of more bits its range.
unfoldable pub name_size : List ℕ → List ℕ → ℕ → ℕ
name_size widths names v = length (name_of names v) + pick (ltb (get_or widths v 0) 2) 0 6

unfoldable pub unit_of : ℕ → List ℕ → List ℕ → ℕ
unit_of base widths vs = longer 20 ((7 * capped 40 (largest (value_size base widths) 0 vs) + 13) / 2)

unfoldable pub left_of : List ℕ → List ℕ → List ℕ → ℕ
left_of widths names vs = 8 * capped 40 (largest (name_size widths names) 0 vs) + 8

unfoldable pub drawing_of : ℕ → ℕ → ℕ → List ℕ → List ℕ → List ℕ → Drawing
drawing_of base first cycles widths names vs = record {
  first = first % 4294967296;
  cycles = capped 128 cycles;
  unit = unit_of base widths vs;
  left = left_of widths names vs;
  lanes = within (length vs);
  base = base;
}

-- Where a half begins, from the beginning of the lanes.
unfoldable pub at : Drawing → ℕ → ℕ
at d h = h * d.unit

unfoldable pub halves : Drawing → ℕ
halves d = 2 * d.cycles

unfoldable pub across : Drawing → ℕ
across d = at d (halves d)

unfoldable pub breadth : Drawing → ℕ
breadth d = d.left + across d + 20

unfoldable pub depth : Drawing → ℕ
depth d = 28 * d.lanes + 36

unfoldable pub last_cycle : Drawing → ℕ
last_cycle d = d.first + (d.cycles - 1)

-- ---- measure: a word and a number; escaped: a text of printable ASCII, in which XML's signs have their names

unfoldable pub measure : List ℕ → ℕ → List ℕ
measure word n = word ++ decimal n

unfoldable pub escaped_byte : ℕ → List ℕ
escaped_byte b =
    pick (ltb b 32) (ascii "_") (pick (ltb 126 b) (ascii "_")
    (b is 38 then ascii "&amp;" else b is 60 then ascii "&lt;" else b ∷ []))

unfoldable pub escaped : List ℕ → List ℕ
escaped t = columns escaped_byte t

-- ---- head: the frame, its title, the style, and the clock's rises with the numbers of the cycles

unfoldable pub frame : Drawing → List ℕ
frame d =
    measure (ascii "<svg xmlns='http://www.w3.org/2000/svg' role='img' width='") (breadth d)
    ++ (measure (ascii "' height='") (depth d)
    ++ (measure (ascii "' viewBox='0 0 ") (breadth d)
    ++ (measure (ascii " ") (depth d)
    ++ ascii "'>\n")))

unfoldable pub caption : Drawing → List ℕ → List ℕ
caption d file =
    ascii "<title>Waveform of "
    ++ (escaped file
    ++ (measure (ascii ", cycles ") d.first
    ++ (measure (ascii " to ") (last_cycle d)
    ++ ascii "</title>\n")))

-- Dark lines on a white ground; light ones on a dark ground where the viewer asks for it.
unfoldable pub light : List ℕ
light =
    ascii "<style>text{font:12px monospace;text-anchor:middle;fill:#1f2328}rect{fill:#fff}path{fill:none;stroke:#0a7a33}\n"
    ++ (ascii "path{stroke-width:1.5}.n{text-anchor:end}.c{fill:#59636e}.g{stroke:#d1d9e0;stroke-width:1}.b{fill:#eaf6ee}\n"
    ++ (ascii ".x{fill:url(#x);stroke:#cf222e}.h{stroke:#cf222e;stroke-width:3;opacity:.35}\n"
    ++ ascii ".t{fill:#b3101c;font-weight:bold;paint-order:stroke;stroke:#fff;stroke-width:4}\n"))

unfoldable pub dark : List ℕ
dark =
    ascii "@media(prefers-color-scheme:dark){text{fill:#e6edf3}rect{fill:#0d1117}path{stroke:#56d364}.c{fill:#9198a1}\n"
    ++ ascii ".g{stroke:#3d444d}.b{fill:#12261b}.x,.h{stroke:#ff7b72}.t{fill:#ffa198;stroke:#0d1117}}</style>\n"

-- What is unknown is hatched.
unfoldable pub ground : List ℕ
ground =
    ascii "<pattern id='x' width='6' height='6' patternUnits='userSpaceOnUse' patternTransform='rotate(45)'>"
    ++ ascii "<path class='h' d='M0 0V6'/></pattern>\n<rect width='100%' height='100%'/>\n"

unfoldable pub rise_at : Drawing → ℕ → ℕ
rise_at d k = d.left + 8 + at d (2 * k + 1)

-- Where numbers of cycles have five digits or more, every fifth is shown.
unfoldable pub is_labelled : Drawing → ℕ → Bool
is_labelled d k = pick (ltb (last_cycle d) 10000) true (eqb ((d.first + k) % 5) 0)

unfoldable pub label : Drawing → ℕ → List ℕ
label d k =
    pick (is_labelled d k)
    (measure (ascii "<text class='c' x='") (rise_at d k) ++ (measure (ascii "' y='16'>") (d.first + k) ++ ascii "</text>"))
    []

unfoldable pub rise : Drawing → ℕ → List ℕ
rise d k =
    measure (ascii "<path class='g' d='M") (rise_at d k)
    ++ (measure (ascii " 24V") (depth d)
    ++ (ascii "'/>"
    ++ (label d k
    ++ ascii "\n")))

unfoldable pub head : Drawing → List ℕ → List ℕ
head d file = frame d ++ (caption d file ++ (light ++ (dark ++ (ground ++ texts (rise d) d.cycles 0))))

-- ---- stretch: a value of w bits from half a up to half b. A bit is a line, low or high, that meets its neighbours half way; x is a
-- hatched box. More bits are a box with the value in it, pressed together where the box is too narrow.

unfoldable pub level_word : ℕ → List ℕ
level_word n = n is 0 then ascii " 12V21H" else ascii " 12V3H"

unfoldable pub level : Drawing → ℕ → ℕ → ℕ → List ℕ
level d a b n =
    measure (ascii "<path d='M") (at d a)
    ++ (measure (level_word n) (at d b)
    ++ ascii "V12'/>\n")

unfoldable pub middle : Drawing → ℕ → ℕ → ℕ
middle d a b = (at d a + at d b) / 2

unfoldable pub unknown_bit : Drawing → ℕ → ℕ → List ℕ
unknown_bit d a b =
    measure (ascii "<path class='x' d='M") (at d a)
    ++ (measure (ascii " 3V21H") (at d b)
    ++ (measure (ascii "V3z'/><text class='t' x='") (middle d a b)
    ++ ascii "' y='16'>x</text>\n"))

unfoldable pub bit_stretch : Drawing → ℕ → ℕ → Value → List ℕ
bit_stretch d a b v = pick (is_known v) (level d a b (number_of v)) (unknown_bit d a b)

unfoldable pub box_word : Bool → List ℕ
box_word known = pick known (ascii "</title><path class='b' d='M") (ascii "</title><path class='x' d='M")

unfoldable pub outline : Drawing → Bool → ℕ → ℕ → List ℕ
outline d known a b =
    measure (box_word known) (at d a)
    ++ (measure (ascii " 12l4-9H") (at d b - 4)
    ++ measure (ascii "l4 9-4 9H") (at d a + 4))

unfoldable pub text_word : Bool → List ℕ
text_word known = pick known (ascii "z'/><text x='") (ascii "z'/><text class='t' x='")

-- A text of n characters takes 7 pixels each.
unfoldable pub room : Drawing → ℕ → ℕ → ℕ
room d a b = at d b - at d a - 6

unfoldable pub pressed : Drawing → ℕ → ℕ → ℕ → List ℕ
pressed d a b n =
    pick (ltb (room d a b / 7) n)
    (measure (ascii " textLength='") (room d a b) ++ ascii "' lengthAdjust='spacingAndGlyphs'")
    []

unfoldable pub inscription : Drawing → Bool → ℕ → ℕ → ℕ → List ℕ
inscription d known a b n = measure (text_word known) (middle d a b) ++ (ascii "' y='16'" ++ (pressed d a b n ++ ascii ">"))

unfoldable pub box : Drawing → ℕ → ℕ → ℕ → Value → List ℕ
box d w a b v =
    ascii "<g><title>"
    ++ (shown d.base w v
    ++ (outline d (is_known v) a b
    ++ (inscription d (is_known v) a b (length (shown d.base w v))
    ++ (shown d.base w v
    ++ ascii "</text></g>\n"))))

unfoldable pub stretch : Drawing → ℕ → ℕ → ℕ → Value → List ℕ
stretch d w a b v = w is 1 then bit_stretch d a b v else box d w a b v

-- ---- lane: the name of a variable, its range, and its values in the halves of a trace, one stretch for each that begins

-- The value of variable v in half h.
unfoldable pub value_in : List ℕ → ℕ → ℕ → Value
value_in trace v h = cell_at (row_of trace h) v

-- Does another value begin in half h than the one before?
unfoldable pub begins : (ℕ → Value) → ℕ → Bool
begins value h = h is 0 then true else not (same (value (h - 1)) (value h))

-- The first of n halves from half h on that has another value than a; the one behind them where none has.
unfoldable pub end_of : (ℕ → Value) → Value → ℕ → ℕ → ℕ
end_of value a zero h = h
end_of value a (suc n) h = pick (same a (value h)) (end_of value a n (h + 1)) h

unfoldable pub stretch_from : Drawing → ℕ → (ℕ → Value) → ℕ → List ℕ
stretch_from d w value h =
    pick (begins value h) (stretch d w h (end_of value (value h) (halves d - (h + 1)) (h + 1)) (value h)) []

unfoldable pub range : ℕ → List ℕ
range w = pick (ltb w 2) [] (measure (ascii "[") (w - 1) ++ ascii ":0]")

unfoldable pub lane_name : Drawing → List ℕ → List ℕ → ℕ → ℕ → List ℕ
lane_name d widths names v i =
    measure (ascii "<text class='n' x='") d.left
    ++ (measure (ascii "' y='") (28 * within i + 44)
    ++ (ascii "'>"
    ++ (escaped (name_of names v)
    ++ (range (get_or widths v 0)
    ++ ascii "</text>\n"))))

-- The ends of the lines at the lane's two sides are cut off, by a pixel.
unfoldable pub lane_frame : Drawing → ℕ → List ℕ
lane_frame d i =
    measure (ascii "<svg x='") (d.left + 9)
    ++ (measure (ascii "' y='") (28 * within i + 28)
    ++ (measure (ascii "' width='") (across d - 2)
    ++ (measure (ascii "' height='24' viewBox='1 0 ") (across d - 2)
    ++ ascii " 24'>\n")))

unfoldable pub lane : Drawing → List ℕ → List ℕ → List ℕ → ℕ → ℕ → List ℕ
lane d widths names trace v i =
    lane_name d widths names v i
    ++ (lane_frame d i
    ++ (texts (stretch_from d (get_or widths v 0) (value_in trace v)) (halves d) 0
    ++ ascii "</svg>\n"))

-- ---- foot

unfoldable pub foot : List ℕ
foot = ascii "</svg>\n"
