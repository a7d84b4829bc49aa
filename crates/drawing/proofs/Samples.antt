-- Samples, computed: a lane of one bit that is unknown and then 1, and the box of a value with some unknown bits. Assumes nothing.
use mathlib.Core.Path.{◌≡◌, refl}
use mathlib.Core.List.{List, [], ◌∷◌, ◌++◌}
use Prim.Native.Nat.{ℕ}
use lib.ListN.{replicate}
use Rattle.values.specs.Values.{ones, all_unknown, same}
use Rattle.values.specs.Planes.{number_of, marks_of}
use Rattle.values.specs.Cells.{number_in, marks_in, value_of, cell_at}
use Rattle.writing.specs.Ascii.{ascii}
use Rattle.writing.specs.Numbers.{digits, decimal}
use Rattle.naming.specs.Naming.{name_from, name_of, within, texts}
use Rattle.trace_row.specs.TraceRow.{row_of}
use Rattle.binary_text.specs.BinaryText.{bit, bits, bits_of, is_known, is_x}
use Rattle.tabulate.specs.Tabulate.{numbered, lead, shown, columns}
use Rattle.drawing.specs.declared.Drawing.{Drawing}
use Rattle.drawing.specs.Drawing.{at, halves, across, measure, escaped_byte, escaped, level_word, level, middle, unknown_bit}
use Rattle.drawing.specs.Drawing.{bit_stretch, box_word, outline, text_word, room, pressed, inscription, box, stretch, value_in, begins, end_of}
use Rattle.drawing.specs.Drawing.{stretch_from, range, lane_name, lane_frame, lane}

-- One cycle, 20 pixels a half.
abbrev one : Drawing
one = record { first = 0; cycles = 1; unit = 20; left = 40; lanes = 1; base = 10 }

names : List ℕ
unfolding ascii
names = ascii "a" ++ replicate 31 0

-- The variable is x in the first half, 1 in the second.
trace : List ℕ
trace = (4294967296 ∷ replicate 87 0) ++ (1 ∷ replicate 87 0)

rising : lane one (1 ∷ []) names trace 0 0
    ≡ ascii "<text class='n' x='40' y='44'>a</text>\n<svg x='49' y='28' width='38' height='24' viewBox='1 0 38 24'>\n"
    ++ (ascii "<path class='x' d='M0 3V21H20V3z'/><text class='t' x='10' y='16'>x</text>\n"
    ++ ascii "<path d='M20 12V3H40V12'/>\n</svg>\n")
unfolding names trace lane lane_name lane_frame measure escaped columns escaped_byte name_of name_from within range halves across at texts stretch_from begins end_of value_in row_of cell_at value_of number_in marks_in stretch bit_stretch level level_word unknown_bit middle is_known same number_of marks_of decimal digits ascii
rising = refl

-- Five characters in a box of half a cycle are pressed together.
pressed-bits : box one 4 1 2 (record { number = 8; unknown = 5 })
    ≡ ascii "<g><title>b1x0x</title><path class='x' d='M20 12l4-9H36l4 9-4 9H24z'/><text class='t' x='30' y='16'"
    ++ ascii " textLength='14' lengthAdjust='spacingAndGlyphs'>b1x0x</text></g>\n"
unfolding box shown lead numbered bits_of bits bit is_known is_x ones all_unknown number_of marks_of outline box_word inscription text_word pressed room middle at measure decimal digits ascii
pressed-bits = refl
