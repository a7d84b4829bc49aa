-- What could have stood where a text stops being one of the forms: a kind of token could where the reader of the table of tokens
-- (verilog_items), with that kind in the place of the token at which it stops, doesn't stop at that token any more.
use Rattle.std.specs.Prelude.{Bool, true, false, not, List, [], ◌++◌, ℕ, zero, suc, ◌+◌, ◌-◌, ltb, eqb, length, set, replicate}
use Rattle.values.specs.Values.{pick, ◌is◌then◌else◌}
use Rattle.writing.specs.Ascii.{ascii}
use Rattle.reasons.specs.Reasons.{line_of}
use Rattle.verilog_tokens.specs.Tokens.{tokens}
use Rattle.verilog_tokens.specs.Table.{kinds, numbers}
use Rattle.verilog_scan.specs.Scan.{stored, overlong}
use Rattle.verilog_items.specs.Items.{read_in}

abbrev pub zeros : ℕ → List ℕ
zeros n = replicate n 0

-- ---- where reading stops, and what it goes past

unfoldable pub stop_in : List ℕ → List ℕ → ℕ → ℕ
stop_in ks ns count = (read_in ks ns count (zeros 65536) (zeros 16385) (zeros 16385)).text.put.next

-- A token of each kind that stands for others of its kind: its number is 1 where it opens with another digit than 0 (65), else 0.
unfoldable pub sample : ℕ → ℕ
sample kind = kind is 65 then 1 else 0

-- How many tokens there are with one at that place: one more behind the last.
unfoldable pub reach : ℕ → ℕ → ℕ
reach count i = pick (ltb i count) count (i + 1)

-- A table has 16,385 entries.
unfoldable pub could_stand : List ℕ → List ℕ → ℕ → ℕ → ℕ → Bool
could_stand ks ns count i kind =
    pick (ltb i 16385) (not (eqb (stop_in (set ks i kind) (set ns i (sample kind)) (reach count i)) i)) false

-- ---- the list of kinds, by rows: names, numbers and values (64 to 68), the terminals (1 to 39), the text's end

unfoldable pub kind_of : ℕ → ℕ
kind_of n = pick (ltb n 5) (64 + n) (pick (ltb n 44) (n - 4) 0)

unfoldable pub spellings : List ℕ
spellings = ascii "a name\na number\n`0`\na value such as 'd5\nan unknown value such as 'bx\n`module`\n`endmodule`\n`input`\n`reg`\n`wire`\n`assign`\n`always`\n`begin`\n`end`\n`if`\n`else`\n`case`\n`endcase`\n`default`\n`while`\n`forever`\n`posedge`\n`negedge`\n`or`\n`(`\n`)`\n`[`\n`]`\n`:`\n`;`\n`,`\n`@`\n`=`\n`==`\n`<=`\n`<`\n`?`\n`~`\n`!`\n`&`\n`|`\n`^`\n`+`\n`-`\nthe end of the text"

unfoldable pub spelled : ℕ → List ℕ
spelled n = line_of n spellings

-- Behind a comma where it is not the first.
unfoldable pub choice : Bool → ℕ → List ℕ
choice first n = pick first (spelled n) (ascii ", " ++ spelled n)

unfoldable pub row : Bool → Bool → ℕ → List ℕ
row could first n = pick could (choice first n) []

-- Those of so many rows from row n on that a test takes.
unfoldable pub choices_from : (ℕ → Bool) → ℕ → ℕ → Bool → List ℕ
choices_from test zero n first = []
choices_from test (suc k) n first = row (test n) first n ++ choices_from test k (n + 1) (pick (test n) false first)

unfoldable pub could_row : List ℕ → List ℕ → ℕ → ℕ → ℕ → Bool
could_row ks ns count i n = could_stand ks ns count i (kind_of n)

unfoldable pub choices_in : List ℕ → List ℕ → ℕ → List ℕ
choices_in ks ns count = choices_from (could_row ks ns count (stop_in ks ns count)) 45 0 true

-- ---- of a text: its tables of kinds and numbers, which stay empty for a text that is too long

unfoldable pub short : ℕ → ℕ
short n = pick (ltb n 65536) n 65535

abbrev pub table : List ℕ → List ℕ → List ℕ
table text rows = pick (overlong text) (zeros 16385) (stored rows (zeros 16385))

unfoldable pub choice_words : List ℕ → List ℕ
choice_words text =
    choices_in (table text (kinds text)) (table text (numbers text)) (short (pick (overlong text) 0 (length (tokens text))))
