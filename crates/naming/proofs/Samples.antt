-- Samples, computed: plain names, names of a table, and a name that is set.
use mathlib.Core.Path.{◌≡◌, refl}
use mathlib.Core.Bool.{true, false}
use mathlib.Core.List.{List, [], ◌++◌}
use Prim.Native.Nat.{ℕ}
use lib.ListN.{replicate}
use Rattle.writing.specs.Ascii.{ascii}
use Rattle.writing.specs.Numbers.{digits, decimal}
use Rattle.naming.specs.Naming.{plain_mark, plain_number, plain_name, name_from, name_of, padded, renamed, same_text}

-- ---- plain names of 2 inputs and 3 registers

input : plain_name 2 3 1 ≡ ascii "i1"
unfolding plain_name plain_mark plain_number decimal digits ascii
input = refl

register : plain_name 2 3 4 ≡ ascii "r2"
unfolding plain_name plain_mark plain_number decimal digits ascii
register = refl

wire : plain_name 2 3 17 ≡ ascii "w12"
unfolding plain_name plain_mark plain_number decimal digits ascii
wire = refl

-- ---- a table of two rows

table : List ℕ
unfolding ascii
table = ascii "clk" ++ (replicate 29 0 ++ (ascii "a_name_of_thirty_two_bytes_here." ++ ascii "x"))

first : name_of table 0 ≡ ascii "clk"
unfolding table name_of name_from ascii
first = refl

-- A row that is full ends with its row.
full : name_of table 1 ≡ ascii "a_name_of_thirty_two_bytes_here."
unfolding table name_of name_from ascii
full = refl

past : name_of table 80 ≡ []
unfolding table name_of name_from ascii
past = refl

-- A longer name before, zeros behind the shorter one now.
shorter : renamed (ascii "clock" ++ replicate 27 0) 0 (ascii "ck") ≡ ascii "ck" ++ replicate 30 0
unfolding renamed padded ascii
shorter = refl

equal : same_text (name_of table 0) (ascii "clk") ≡ true
unfolding table name_of name_from same_text ascii
equal = refl

prefix : same_text (name_of table 0) (ascii "clk1") ≡ false
unfolding table name_of name_from same_text ascii
prefix = refl
