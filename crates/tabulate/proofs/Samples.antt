-- Samples, computed: lines of titles and of values, with x, in three bases and with commas. Assumes nothing.
use mathlib.Core.Path.{◌≡◌, refl}
use mathlib.Core.List.{List, [], ◌∷◌, ◌++◌}
use mathlib.Core.Bool.{Bool, true, false}
use Prim.Native.Nat.{ℕ}
use Prim.Native.String.{String}
use lib.ListN.{replicate}
use Rattle.values.specs.Values.{ones, all_unknown}
use Rattle.values.specs.Planes.{value_at, number_of, marks_of}
use Rattle.writing.specs.Ascii.{ascii}
use Rattle.writing.specs.Numbers.{digits, decimal}
use Rattle.naming.specs.Naming.{name_from, name_of}
use Rattle.binary_text.specs.BinaryText.{bit, bits, bits_of, is_known, is_x}
use Rattle.tabulate.specs.Tabulate.{figure, figures, numbered, lead, shown, longer, places, column_width, aligned, gap, cell}
use Rattle.tabulate.specs.Tabulate.{cycle_title, cycle_cell, title, entry, columns, head_line, line, is_chosen}

-- Three variables: clk of 1 bit, count of 4 bits, q of 10 bits.
pub names : List ℕ
unfolding ascii
names = ascii "clk" ++ (replicate 29 0 ++ (ascii "count" ++ (replicate 27 0 ++ (ascii "q" ++ replicate 31 0))))

-- The titles of count and q, and cycle 12 with count x, or 1x0x, and q 512.
abbrev pub heads : ℕ → Bool → List ℕ
heads base csv = head_line (record { base = base; csv = csv }) (1 ∷ 4 ∷ 10 ∷ []) names (1 ∷ 2 ∷ [])

abbrev pub row : ℕ → Bool → ℕ → ℕ → List ℕ
row base csv n marks =
    line (record { base = base; csv = csv }) (1 ∷ 4 ∷ 10 ∷ []) names (1 ∷ 2 ∷ []) 12
    (value_at (1 ∷ n ∷ 512 ∷ []) (0 ∷ marks ∷ 0 ∷ []))

-- The first column is as wide as its name, the second as the largest number of 10 bits.
pub lines :
    (heads 10 false ≡ ascii "   cycle  count     q\n") × (row 10 false 0 15 ≡ ascii "      12      x   512\n") ×
    (row 10 false 8 5 ≡ ascii "      12  b1x0x   512\n") ×
    (heads 16 false ≡ ascii "   cycle  count    q\n") × (row 16 false 0 15 ≡ ascii "      12      x  200\n") ×
    (row 16 false 8 5 ≡ ascii "      12  b1x0x  200\n") ×
    (heads 2 false ≡ ascii "   cycle  count           q\n") × (row 2 false 0 15 ≡ ascii "      12      x  1000000000\n") ×
    (row 2 false 8 5 ≡ ascii "      12   1x0x  1000000000\n") ×
    (heads 10 true ≡ ascii "cycle,count,q\n") × (row 10 true 0 15 ≡ ascii "12,x,512\n") × (row 10 true 8 5 ≡ ascii "12,b1x0x,512\n")
unfolding names head_line line cycle_title cycle_cell columns title entry cell gap aligned column_width places longer shown lead numbered figures figure bits_of bits bit is_known is_x ones all_unknown name_of name_from value_at number_of marks_of decimal digits ascii
lines = (refl, refl, refl, refl, refl, refl, refl, refl, refl, refl, refl, refl)

-- One bit: a figure or x, in one place.
pub one_bit : (shown 10 1 (all_unknown 1) ≡ ascii "x") × (places 10 1 ≡ 1)
unfolding shown is_known is_x places ones all_unknown marks_of decimal digits ascii
one_bit = (refl, refl)

-- A cycle of more than 8 digits stands as it is.
pub long-cycle : cycle_cell false 123456789 ≡ ascii "123456789"
unfolding cycle_cell aligned decimal digits ascii
long-cycle = refl

-- From cycle 2 to 9, every third.
pub choices : (is_chosen 2 9 3 5 ≡ true) × (is_chosen 2 9 3 6 ≡ false) × (is_chosen 2 9 3 1 ≡ false) × (is_chosen 2 9 3 11 ≡ false)
unfolding is_chosen
choices = (refl, refl, refl, refl)
