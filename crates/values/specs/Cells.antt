-- A value as one cell of 64 bits: its number in the low half, the marks of its unknown bits in the high half.
use Rattle.std.specs.Prelude.{ℕ, ◌+◌, ◌*◌, ◌/◌, ◌%◌, Bool, ◌&&◌, List, nat_lt, slice_index}
use Rattle.values.specs.declared.Value.{Value}

-- ---- small: a value of two numbers of 32 bits, as code has it

unfoldable pub small : Value → Bool
small a = nat_lt a.number 4294967296 && nat_lt a.unknown 4294967296

-- ---- cell_of, value_of: the cell of a value, and the value that a cell stands for

unfoldable pub cell_of : Value → ℕ
cell_of a = a.number + a.unknown * 4294967296

unfoldable pub number_in : ℕ → ℕ
number_in c = c % 4294967296

unfoldable pub marks_in : ℕ → ℕ
marks_in c = c / 4294967296 % 4294967296

unfoldable pub value_of : ℕ → Value
value_of c = record { number = number_in c; unknown = marks_in c }

-- ---- cell_at: the value in slot v of a plane of cells (past the end the number 0)

unfoldable pub cell_at : List ℕ → ℕ → Value
cell_at cs v = value_of (slice_index cs v)
