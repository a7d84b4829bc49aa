-- Samples, computed from the definitions. Assumes nothing.
use mathlib.Core.Path.{◌≡◌, refl}
use mathlib.Core.List.{List, [], ◌∷◌}
use Prim.Native.Nat.{ℕ}
use Rattle.values.specs.Values.{known, ones, all_unknown, fits}
use Rattle.values.specs.Planes.{number_of as number_in, marks_of}
use Rattle.hextext.specs.Characters.{digit_of, is_blank}
use Rattle.stimulus.specs.Words.{separates, is_named, in_class, span, run_end, ended}
use Rattle.stimulus.specs.Numbers.{grown, grown_by, number_of, is_letter_x, is_x, is_hex}
use Rattle.stimulus.specs.Numbers.{is_letter_b, is_bits, quote_at, is_sized, doubled, spelt, spelt_by, ahead, bits_of}
use Rattle.stimulus.specs.Lines.{entry, admitted, fitted, cut, sized, quoted, quoted_of, entry_of, cell_at, taken, slots, surplus, line_with, values_from, values_of, first_place, line_of}
use Rattle.stimulus.specs.Names.{below, variable_of, name_line, name_error, name_after, name_of}

-- ---- lines of inputs: the clock, and three inputs of 8, 8 and 4 bits

abbrev widths : List ℕ
widths = 1 ∷ 8 ∷ 8 ∷ 4 ∷ []

-- `12, 0x1F x # c`
pub sample-line :
    line_of (49 ∷ 50 ∷ 44 ∷ 32 ∷ 48 ∷ 120 ∷ 49 ∷ 70 ∷ 32 ∷ 120 ∷ 32 ∷ 35 ∷ 32 ∷ 99 ∷ []) widths 4
    ≡ line_with 0 12 4
    (0 ∷ 12 ∷ 31 ∷ 0 ∷ 0 ∷ 0 ∷ 0 ∷ 0 ∷ 0 ∷ 0 ∷ 0 ∷ 0 ∷ 0 ∷ 0 ∷ 0 ∷ 0 ∷ [])
    (0 ∷ 0 ∷ 0 ∷ 15 ∷ 0 ∷ 0 ∷ 0 ∷ 0 ∷ 0 ∷ 0 ∷ 0 ∷ 0 ∷ 0 ∷ 0 ∷ 0 ∷ 0 ∷ [])
unfolding is_x is_hex is_letter_x is_bits is_letter_b is_sized quote_at number_of grown_by grown digit_of admitted fitted entry_of fits known ones all_unknown number_in marks_of cell_at taken run_end span in_class separates is_blank ended slots surplus values_from values_of first_place line_of
sample-line = refl

-- `# c`: no cycle
pub sample-comment :
    line_of (32 ∷ 35 ∷ 32 ∷ 99 ∷ []) widths 4
    ≡ line_with 1 2 1
    (0 ∷ 0 ∷ 0 ∷ 0 ∷ 0 ∷ 0 ∷ 0 ∷ 0 ∷ 0 ∷ 0 ∷ 0 ∷ 0 ∷ 0 ∷ 0 ∷ 0 ∷ 0 ∷ [])
    (0 ∷ 0 ∷ 0 ∷ 0 ∷ 0 ∷ 0 ∷ 0 ∷ 0 ∷ 0 ∷ 0 ∷ 0 ∷ 0 ∷ 0 ∷ 0 ∷ 0 ∷ 0 ∷ [])
unfolding is_x is_hex is_letter_x is_bits is_letter_b is_sized quote_at number_of grown_by grown digit_of admitted fitted entry_of fits known ones all_unknown number_in marks_of cell_at taken run_end span in_class separates is_blank ended slots surplus values_from values_of first_place line_of
sample-comment = refl

-- `1 0x 2`: the second is no number
pub sample-no-number :
    line_of (49 ∷ 32 ∷ 48 ∷ 120 ∷ 32 ∷ 50 ∷ []) widths 4
    ≡ line_with 2 3 2
    (0 ∷ 1 ∷ 0 ∷ 0 ∷ 0 ∷ 0 ∷ 0 ∷ 0 ∷ 0 ∷ 0 ∷ 0 ∷ 0 ∷ 0 ∷ 0 ∷ 0 ∷ 0 ∷ [])
    (0 ∷ 0 ∷ 0 ∷ 0 ∷ 0 ∷ 0 ∷ 0 ∷ 0 ∷ 0 ∷ 0 ∷ 0 ∷ 0 ∷ 0 ∷ 0 ∷ 0 ∷ 0 ∷ [])
unfolding is_x is_hex is_letter_x is_bits is_letter_b is_sized quote_at number_of grown_by grown digit_of admitted fitted entry_of fits known ones all_unknown number_in marks_of cell_at taken run_end span in_class separates is_blank ended slots surplus values_from values_of first_place line_of
sample-no-number = refl

-- `1 2 16`: the third has 4 bits
pub sample-wide :
    line_of (49 ∷ 32 ∷ 50 ∷ 32 ∷ 49 ∷ 54 ∷ []) widths 4
    ≡ line_with 3 5 3
    (0 ∷ 1 ∷ 2 ∷ 0 ∷ 0 ∷ 0 ∷ 0 ∷ 0 ∷ 0 ∷ 0 ∷ 0 ∷ 0 ∷ 0 ∷ 0 ∷ 0 ∷ 0 ∷ [])
    (0 ∷ 0 ∷ 0 ∷ 0 ∷ 0 ∷ 0 ∷ 0 ∷ 0 ∷ 0 ∷ 0 ∷ 0 ∷ 0 ∷ 0 ∷ 0 ∷ 0 ∷ 0 ∷ [])
unfolding is_x is_hex is_letter_x is_bits is_letter_b is_sized quote_at number_of grown_by grown digit_of admitted fitted entry_of fits known ones all_unknown number_in marks_of cell_at taken run_end span in_class separates is_blank ended slots surplus values_from values_of first_place line_of
sample-wide = refl

-- `1 2`
pub sample-few :
    line_of (49 ∷ 32 ∷ 50 ∷ []) widths 4
    ≡ line_with 4 4 3
    (0 ∷ 1 ∷ 2 ∷ 0 ∷ 0 ∷ 0 ∷ 0 ∷ 0 ∷ 0 ∷ 0 ∷ 0 ∷ 0 ∷ 0 ∷ 0 ∷ 0 ∷ 0 ∷ [])
    (0 ∷ 0 ∷ 0 ∷ 0 ∷ 0 ∷ 0 ∷ 0 ∷ 0 ∷ 0 ∷ 0 ∷ 0 ∷ 0 ∷ 0 ∷ 0 ∷ 0 ∷ 0 ∷ [])
unfolding is_x is_hex is_letter_x is_bits is_letter_b is_sized quote_at number_of grown_by grown digit_of admitted fitted entry_of fits known ones all_unknown number_in marks_of cell_at taken run_end span in_class separates is_blank ended slots surplus values_from values_of first_place line_of
sample-few = refl

-- `1 2 3 4`
pub sample-many :
    line_of (49 ∷ 32 ∷ 50 ∷ 32 ∷ 51 ∷ 32 ∷ 52 ∷ []) widths 4
    ≡ line_with 5 7 4
    (0 ∷ 1 ∷ 2 ∷ 3 ∷ 0 ∷ 0 ∷ 0 ∷ 0 ∷ 0 ∷ 0 ∷ 0 ∷ 0 ∷ 0 ∷ 0 ∷ 0 ∷ 0 ∷ [])
    (0 ∷ 0 ∷ 0 ∷ 0 ∷ 0 ∷ 0 ∷ 0 ∷ 0 ∷ 0 ∷ 0 ∷ 0 ∷ 0 ∷ 0 ∷ 0 ∷ 0 ∷ 0 ∷ [])
unfolding is_x is_hex is_letter_x is_bits is_letter_b is_sized quote_at number_of grown_by grown digit_of admitted fitted entry_of fits known ones all_unknown number_in marks_of cell_at taken run_end span in_class separates is_blank ended slots surplus values_from values_of first_place line_of
sample-many = refl

-- `1,,2`: an empty cell
pub sample-empty :
    line_of (49 ∷ 44 ∷ 44 ∷ 50 ∷ []) widths 4
    ≡ line_with 6 3 2
    (0 ∷ 1 ∷ 0 ∷ 0 ∷ 0 ∷ 0 ∷ 0 ∷ 0 ∷ 0 ∷ 0 ∷ 0 ∷ 0 ∷ 0 ∷ 0 ∷ 0 ∷ 0 ∷ [])
    (0 ∷ 0 ∷ 0 ∷ 0 ∷ 0 ∷ 0 ∷ 0 ∷ 0 ∷ 0 ∷ 0 ∷ 0 ∷ 0 ∷ 0 ∷ 0 ∷ 0 ∷ 0 ∷ [])
unfolding is_x is_hex is_letter_x is_bits is_letter_b is_sized quote_at number_of grown_by grown digit_of admitted fitted entry_of fits known ones all_unknown number_in marks_of cell_at taken run_end span in_class separates is_blank ended slots surplus values_from values_of first_place line_of
sample-empty = refl

-- `1, 2, 3,`: a comma where the line should end
pub sample-comma :
    line_of (49 ∷ 44 ∷ 32 ∷ 50 ∷ 44 ∷ 32 ∷ 51 ∷ 44 ∷ []) widths 4
    ≡ line_with 5 8 4
    (0 ∷ 1 ∷ 2 ∷ 3 ∷ 0 ∷ 0 ∷ 0 ∷ 0 ∷ 0 ∷ 0 ∷ 0 ∷ 0 ∷ 0 ∷ 0 ∷ 0 ∷ 0 ∷ [])
    (0 ∷ 0 ∷ 0 ∷ 0 ∷ 0 ∷ 0 ∷ 0 ∷ 0 ∷ 0 ∷ 0 ∷ 0 ∷ 0 ∷ 0 ∷ 0 ∷ 0 ∷ 0 ∷ [])
unfolding is_x is_hex is_letter_x is_bits is_letter_b is_sized quote_at number_of grown_by grown digit_of admitted fitted entry_of fits known ones all_unknown number_in marks_of cell_at taken run_end span in_class separates is_blank ended slots surplus values_from values_of first_place line_of
sample-comma = refl

-- `4294967296`: past 32 bits
pub sample-long :
    line_of (52 ∷ 50 ∷ 57 ∷ 52 ∷ 57 ∷ 54 ∷ 55 ∷ 50 ∷ 57 ∷ 54 ∷ []) widths 2
    ≡ line_with 3 1 1
    (0 ∷ 0 ∷ 0 ∷ 0 ∷ 0 ∷ 0 ∷ 0 ∷ 0 ∷ 0 ∷ 0 ∷ 0 ∷ 0 ∷ 0 ∷ 0 ∷ 0 ∷ 0 ∷ [])
    (0 ∷ 0 ∷ 0 ∷ 0 ∷ 0 ∷ 0 ∷ 0 ∷ 0 ∷ 0 ∷ 0 ∷ 0 ∷ 0 ∷ 0 ∷ 0 ∷ 0 ∷ 0 ∷ [])
unfolding is_x is_hex is_letter_x is_bits is_letter_b is_sized quote_at number_of grown_by grown digit_of admitted fitted entry_of fits known ones all_unknown number_in marks_of cell_at taken run_end span in_class separates is_blank ended slots surplus values_from values_of first_place line_of
sample-long = refl

-- `-`, where there is no input but the clock
pub sample-dash :
    line_of (45 ∷ []) widths 1
    ≡ line_with 0 2 1
    (0 ∷ 0 ∷ 0 ∷ 0 ∷ 0 ∷ 0 ∷ 0 ∷ 0 ∷ 0 ∷ 0 ∷ 0 ∷ 0 ∷ 0 ∷ 0 ∷ 0 ∷ 0 ∷ [])
    (0 ∷ 0 ∷ 0 ∷ 0 ∷ 0 ∷ 0 ∷ 0 ∷ 0 ∷ 0 ∷ 0 ∷ 0 ∷ 0 ∷ 0 ∷ 0 ∷ 0 ∷ 0 ∷ [])
unfolding is_x is_hex is_letter_x is_bits is_letter_b is_sized quote_at number_of grown_by grown digit_of admitted fitted entry_of fits known ones all_unknown number_in marks_of cell_at taken run_end span in_class separates is_blank ended slots surplus values_from values_of first_place line_of
sample-dash = refl

-- ---- words with binary digits

-- `b1x0` for 4 bits, and `bx0` for 4 bits, whose digits in front are x
pub sample-bits : (entry_of 4 (98 ∷ 49 ∷ 120 ∷ 48 ∷ []) ≡ entry 0 2 4) × (entry_of 4 (98 ∷ 120 ∷ 48 ∷ []) ≡ entry 0 14 0)
unfolding entry_of is_x is_hex is_letter_x is_bits is_letter_b bits_of spelt_by spelt doubled ahead sized cut admitted fits ones all_unknown number_in marks_of
sample-bits = (refl, refl)

-- `8'b1x` for 8 bits and for 2, `2'bx` for 4 bits
pub sample-sized :
    (entry_of 8 (56 ∷ 39 ∷ 98 ∷ 49 ∷ 120 ∷ []) ≡ entry 0 1 2) × (entry_of 2 (56 ∷ 39 ∷ 98 ∷ 49 ∷ 120 ∷ []) ≡ entry 0 1 2) ×
    (entry_of 4 (50 ∷ 39 ∷ 98 ∷ 120 ∷ []) ≡ entry 0 3 0)
unfolding entry_of is_x is_hex is_letter_x is_bits is_letter_b is_sized quote_at number_of grown_by grown digit_of quoted_of quoted bits_of spelt_by spelt doubled ahead sized cut admitted fits ones all_unknown number_in marks_of
sample-sized = (refl, refl, refl)

-- Too wide: `b10x` for 2 bits, `8'bx` for 4 bits, `2'b101`, `33'b1`. No numbers: `b12`, `a'b1`.
pub sample-bits-refused :
    (entry_of 2 (98 ∷ 49 ∷ 48 ∷ 120 ∷ []) ≡ entry 3 0 0) × (entry_of 4 (56 ∷ 39 ∷ 98 ∷ 120 ∷ []) ≡ entry 3 0 0) ×
    (entry_of 4 (50 ∷ 39 ∷ 98 ∷ 49 ∷ 48 ∷ 49 ∷ []) ≡ entry 3 0 0) × (entry_of 4 (51 ∷ 51 ∷ 39 ∷ 98 ∷ 49 ∷ []) ≡ entry 3 0 0) ×
    (entry_of 4 (98 ∷ 49 ∷ 50 ∷ []) ≡ entry 2 0 0) × (entry_of 4 (97 ∷ 39 ∷ 98 ∷ 49 ∷ []) ≡ entry 2 0 0)
unfolding entry_of is_x is_hex is_letter_x is_bits is_letter_b is_sized quote_at number_of grown_by grown digit_of quoted_of quoted bits_of spelt_by spelt doubled ahead sized cut admitted fits ones all_unknown number_in marks_of
sample-bits-refused = (refl, refl, refl, refl, refl, refl)

-- ---- lines of the names file: 3 inputs, 2 registers, 1 wire

-- `r1 count # c`: variable 4
pub sample-name : name_of (114 ∷ 49 ∷ 32 ∷ 99 ∷ 111 ∷ 117 ∷ 110 ∷ 116 ∷ 32 ∷ 35 ∷ 32 ∷ 99 ∷ []) 3 2 1 ≡ name_line 0 4 4 3 8
unfolding name_of name_after name_error variable_of below number_of grown_by grown digit_of run_end span in_class is_named separates is_blank ended
sample-name = refl

-- a blank line
pub sample-blank : name_of (32 ∷ []) 3 2 1 ≡ name_line 1 2 0 1 1
unfolding name_of name_after name_error variable_of below number_of grown_by grown digit_of run_end span in_class is_named separates is_blank ended
sample-blank = refl

-- `w1 same`: there is one wire
pub sample-no-variable : name_of (119 ∷ 49 ∷ 32 ∷ 115 ∷ 97 ∷ 109 ∷ 101 ∷ []) 3 2 1 ≡ name_line 2 1 0 3 7
unfolding name_of name_after name_error variable_of below number_of grown_by grown digit_of run_end span in_class is_named separates is_blank ended
sample-no-variable = refl

-- `i0 9th`
pub sample-no-name : name_of (105 ∷ 48 ∷ 32 ∷ 57 ∷ 116 ∷ 104 ∷ []) 3 2 1 ≡ name_line 3 4 0 3 6
unfolding name_of name_after name_error variable_of below number_of grown_by grown digit_of run_end span in_class is_named separates is_blank ended
sample-no-name = refl
