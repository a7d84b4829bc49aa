-- Samples, computed: a header of two variables, time lines, values of one and of more bits, and changes. A row that is too short has
-- the number 0 behind its end.
use mathlib.Core.Path.{◌≡◌, refl}
use mathlib.Core.List.{List, [], ◌∷◌, ◌++◌}
use Prim.Native.Nat.{ℕ}
use lib.ListN.{replicate}
use Rattle.values.specs.Values.{known, ones, all_unknown, same}
use Rattle.values.specs.Planes.{number_of, marks_of}
use Rattle.values.specs.Cells.{number_in, marks_in, value_of as cell, cell_at}
use Rattle.writing.specs.Ascii.{ascii}
use Rattle.writing.specs.Numbers.{digits, decimal}
use Rattle.naming.specs.Naming.{name_from, name_of, within, texts}
use Rattle.binary_text.specs.BinaryText.{bit as digit, bits, bits_of, is_known, is_x}
use Rattle.waveform.specs.Waveform.{kind_of, declaration, declarations, comment_byte, front, header, time_line}
use Rattle.waveform.specs.Waveform.{shortened, figures, value_line, value_of, all_values, change_of, changes}

names : List ℕ
unfolding ascii
names = ascii "clk" ++ (replicate 29 0 ++ (ascii "q" ++ replicate 31 0))

two : header (1 ∷ 8 ∷ []) names (record { inputs = 1; registers = 1; wires = 0 }) (ascii "a$b.v")
    ≡ ascii "$version Walbryts $end\n$comment a_b.v $end\n$timescale 1 ns $end\n$scope module walbryts $end\n$var wire 1 ! clk $end\n$var reg 8 \" q $end\n$upscope $end\n$enddefinitions $end\n"
unfolding names header front comment_byte declarations declaration kind_of name_of name_from within texts decimal digits ascii
two = refl

time : time_line 120 ≡ ascii "#120\n"
unfolding time_line decimal digits ascii
time = refl

bit : value_line 1 0 (known 1) ≡ ascii "1!\n"
unfolding value_line figures shortened bits_of bits digit is_known is_x known ones all_unknown number_of marks_of ascii
bit = refl

bit-x : value_line 1 0 (all_unknown 1) ≡ ascii "x!\n"
unfolding value_line figures shortened bits_of bits digit is_known is_x known ones all_unknown number_of marks_of ascii
bit-x = refl

four : value_line 4 1 (known 5) ≡ ascii "b101 \"\n"
unfolding value_line figures shortened bits_of bits digit is_known is_x known ones all_unknown number_of marks_of ascii
four = refl

four-zero : value_line 4 1 (known 0) ≡ ascii "b0 \"\n"
unfolding value_line figures shortened bits_of bits digit is_known is_x known ones all_unknown number_of marks_of ascii
four-zero = refl

four-x : value_line 4 1 (all_unknown 4) ≡ ascii "bx \"\n"
unfolding value_line figures shortened bits_of bits digit is_known is_x known ones all_unknown number_of marks_of ascii
four-x = refl

four-bits : value_line 4 1 (record { number = 4; unknown = 2 }) ≡ ascii "b01x0 \"\n"
unfolding value_line figures shortened bits_of bits digit is_known is_x known ones all_unknown number_of marks_of ascii
four-bits = refl

-- Variable 1 is x in all of its four bits.
all : all_values (1 ∷ 4 ∷ 4 ∷ []) 3 (cell_at (0 ∷ 64424509440 ∷ [])) ≡ ascii "$dumpvars\n0!\nbx \"\nb0 #\n$end\n"
unfolding all_values value_of value_line figures shortened bits_of bits digit is_known is_x ones all_unknown number_of marks_of within texts cell_at cell number_in marks_in ascii
all = refl

-- Variable 0 goes from 0 to 1, variable 1 stays x, variable 2 goes from 01x0 to 01xx: a bit that becomes unknown is a change.
changed : changes (1 ∷ 4 ∷ 4 ∷ []) 3 (cell_at (0 ∷ 64424509440 ∷ 8589934596 ∷ [])) (cell_at (1 ∷ 64424509440 ∷ 12884901892 ∷ []))
    ≡ ascii "1!\nb01xx #\n"
unfolding changes change_of value_of value_line figures shortened bits_of bits digit is_known is_x ones all_unknown number_of marks_of within texts cell_at cell number_in marks_in same ascii
changed = refl
