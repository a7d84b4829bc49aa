-- What the program prints for sheets that are written out, computed by the definitions.
use mathlib.Core.Path.{◌≡◌, refl}
use Prim.Native.Nat.{ℕ}
use Prim.Native.String.{String}
use mathlib.Core.List.{List, [], ◌∷◌, ◌++◌}
use Rattle.values.specs.Edges.{edge_of, edge_number}
use Rattle.values.specs.Operators.{unary_width, binary_width}
use Rattle.sheet.specs.Reading.{byte_at, within, word, word_of, word_at}
use Rattle.sheet.specs.Expression.{variable, call, no_more, argument, nothing, kind_of, variable_at, node, read_expr, tree}
use Rattle.sheet.specs.Statement.{size, is_register, read_terms, narrow, narrow_all, form_of, assignment, form, read_stmt}
use Rattle.sheet.specs.Functions.{read_widths, read_functions}
use Rattle.sheet.specs.Module.{inputs_of, first_at, function_count, widths_at, read_head, read_wires, read_threads, whole_sheet, read_sheet, read}
use Rattle.sheet.specs.Parts.{least}
use Rattle.pseudocode.specs.Skipping.{argument_count}
use Rattle.pseudocode.specs.Translation.{translate, thread_code}
use Rattle.writing.specs.Ascii.{ascii, byte}
use Rattle.writing.specs.Numbers.{digits, decimal}
use Rattle.text.specs.Listing.{show_expr, show_all, show_term, show_terms, show_head, show_instr, show_line, show_code, show_threads, show_module, listing, refusal, printed, output}
use Rattle.text.specs.Printing.{operands_of, mark_of, behind, operands_at, node_at, shown_at, text_at}

-- Lines, each ended by a line feed.
unfoldable pub lines : List String → List ℕ
lines [] = []
lines (l ∷ ls) = ascii l ++ (byte "\n" ∷ lines ls)

-- ---- sheets

-- The flip-flop of document 01.
abbrev pub flip_flop : List ℕ
flip_flop =
    0x02 ∷ 0x01 ∷ 0x00 ∷ 0x01 ∷ 0x01 ∷ 0x08 ∷ 0x08 ∷ 0x0C ∷ 0x10 ∷ 0x01 ∷ 0x01 ∷ 0x00 ∷ 0x23 ∷ 0x02 ∷ 0x02 ∷
    0x01 ∷ []

-- If-else and constants.
abbrev pub counter : List ℕ
counter =
    0x03 ∷ 0x01 ∷ 0x02 ∷ 0x01 ∷ 0x01 ∷ 0x01 ∷ 0x01 ∷ 0x08 ∷ 0x08 ∷ 0x01 ∷ 0x71 ∷ 0x0A ∷ 0x02 ∷ 0x02 ∷ 0x31 ∷
    0x06 ∷ 0x02 ∷ 0x03 ∷ 0x0C ∷ 0x08 ∷ 0x01 ∷ 0x00 ∷ 0x00 ∷ 0x00 ∷ 0x02 ∷ 0x03 ∷ 0x31 ∷ 0x08 ∷ 0x02 ∷ 0x03 ∷
    0x0C ∷ 0x08 ∷ 0xFF ∷ 0x00 ∷ 0x00 ∷ 0x00 ∷ 0x0C ∷ 0x10 ∷ 0x01 ∷ 0x01 ∷ 0x00 ∷ 0x0E ∷ 0x02 ∷ 0x01 ∷ 0x23 ∷
    0x03 ∷ 0x0C ∷ 0x08 ∷ 0x00 ∷ 0x00 ∷ 0x00 ∷ 0x00 ∷ 0x23 ∷ 0x03 ∷ 0x02 ∷ 0x04 ∷ []

-- Two threads, while and if.
abbrev pub watchdog : List ℕ
watchdog =
    0x05 ∷ 0x04 ∷ 0x02 ∷ 0x02 ∷ 0x01 ∷ 0x01 ∷ 0x0C ∷ 0x08 ∷ 0x01 ∷ 0x0C ∷ 0x08 ∷ 0x01 ∷ 0x10 ∷ 0x01 ∷ 0x01 ∷
    0x31 ∷ 0x08 ∷ 0x02 ∷ 0x02 ∷ 0x02 ∷ 0x05 ∷ 0x31 ∷ 0x08 ∷ 0x02 ∷ 0x06 ∷ 0x02 ∷ 0x03 ∷ 0x0C ∷ 0x10 ∷ 0x01 ∷
    0x01 ∷ 0x00 ∷ 0x0E ∷ 0x02 ∷ 0x01 ∷ 0x0C ∷ 0x23 ∷ 0x05 ∷ 0x0C ∷ 0x0C ∷ 0x00 ∷ 0x00 ∷ 0x00 ∷ 0x00 ∷ 0x0C ∷
    0x23 ∷ 0x06 ∷ 0x0C ∷ 0x08 ∷ 0x00 ∷ 0x00 ∷ 0x00 ∷ 0x00 ∷ 0x23 ∷ 0x07 ∷ 0x0C ∷ 0x01 ∷ 0x00 ∷ 0x00 ∷ 0x00 ∷
    0x00 ∷ 0x0C ∷ 0x23 ∷ 0x05 ∷ 0x02 ∷ 0x02 ∷ 0x06 ∷ 0x02 ∷ 0x09 ∷ 0x0C ∷ 0x23 ∷ 0x06 ∷ 0x0C ∷ 0x08 ∷ 0x01 ∷
    0x00 ∷ 0x00 ∷ 0x00 ∷ 0x0C ∷ 0x10 ∷ 0x01 ∷ 0x01 ∷ 0x00 ∷ 0x0C ∷ 0x46 ∷ 0x31 ∷ 0x03 ∷ 0x02 ∷ 0x09 ∷ 0x31 ∷
    0x03 ∷ 0x11 ∷ 0x02 ∷ 0x02 ∷ 0x01 ∷ 0x11 ∷ 0x02 ∷ 0x02 ∷ 0x0A ∷ 0x0C ∷ 0x23 ∷ 0x06 ∷ 0x31 ∷ 0x06 ∷ 0x02 ∷
    0x06 ∷ 0x0C ∷ 0x08 ∷ 0x01 ∷ 0x00 ∷ 0x00 ∷ 0x00 ∷ 0x10 ∷ 0x01 ∷ 0x01 ∷ 0x00 ∷ 0x0C ∷ 0x06 ∷ 0x02 ∷ 0x0A ∷
    0x0C ∷ 0x23 ∷ 0x07 ∷ 0x0C ∷ 0x01 ∷ 0x01 ∷ 0x00 ∷ 0x00 ∷ 0x00 ∷ 0x0C ∷ 0x10 ∷ 0x01 ∷ 0x01 ∷ 0x00 ∷ 0x0C ∷
    0x46 ∷ 0x31 ∷ 0x03 ∷ 0x11 ∷ 0x02 ∷ 0x02 ∷ 0x04 ∷ 0x11 ∷ 0x02 ∷ 0x02 ∷ 0x01 ∷ 0x10 ∷ 0x01 ∷ 0x01 ∷ 0x00 ∷
    0x23 ∷ 0x07 ∷ 0x0C ∷ 0x01 ∷ 0x00 ∷ 0x00 ∷ 0x00 ∷ 0x00 ∷ 0x23 ∷ 0x06 ∷ 0x0C ∷ 0x08 ∷ 0x00 ∷ 0x00 ∷ 0x00 ∷
    0x00 ∷ 0x0C ∷ 0x10 ∷ 0x01 ∷ 0x01 ∷ 0x00 ∷ 0x0E ∷ 0x02 ∷ 0x01 ∷ 0x23 ∷ 0x08 ∷ 0x0C ∷ 0x10 ∷ 0x00 ∷ 0x00 ∷
    0x00 ∷ 0x00 ∷ 0x06 ∷ 0x02 ∷ 0x07 ∷ 0x23 ∷ 0x08 ∷ 0x31 ∷ 0x06 ∷ 0x02 ∷ 0x08 ∷ 0x0C ∷ 0x10 ∷ 0x01 ∷ 0x00 ∷
    0x00 ∷ 0x00 ∷ []

-- Plain assignment, ?:, an unknown constant, an edge and any change.
abbrev pub mixture : List ℕ
mixture =
    0x02 ∷ 0x01 ∷ 0x00 ∷ 0x01 ∷ 0x01 ∷ 0x08 ∷ 0x08 ∷ 0x0C ∷ 0x10 ∷ 0x02 ∷ 0x02 ∷ 0x00 ∷ 0x00 ∷ 0x01 ∷ 0x0C ∷
    0x03 ∷ 0x02 ∷ 0x31 ∷ 0x06 ∷ 0x02 ∷ 0x01 ∷ 0x0C ∷ 0x08 ∷ 0x05 ∷ 0x00 ∷ 0x00 ∷ 0x00 ∷ 0x06 ∷ 0x02 ∷ 0x00 ∷
    0x03 ∷ 0x02 ∷ 0x71 ∷ 0x0A ∷ 0x02 ∷ 0x00 ∷ 0x11 ∷ 0x01 ∷ 0x02 ∷ 0x02 ∷ 0x04 ∷ 0x08 ∷ []

-- The largest constant, and a forever within a thread.
abbrev pub widest : List ℕ
widest =
    0x01 ∷ 0x01 ∷ 0x00 ∷ 0x02 ∷ 0x01 ∷ 0x20 ∷ 0x23 ∷ 0x01 ∷ 0x0C ∷ 0x20 ∷ 0xFF ∷ 0xFF ∷ 0xFF ∷ 0xFF ∷ 0x44 ∷
    0x10 ∷ 0x01 ∷ 0x00 ∷ 0x01 ∷ []

-- ---- what is printed

pub samples :
    (output flip_flop ≡
    lines
    ("threads 1"
    ∷ "0 0 wait 1 0"
    ∷ "0 1 later 2 v1"
    ∷ "0 2 go 0"
    ∷ []))
    × (output counter ≡
    lines
    ("threads 1"
    ∷ "0 0 wait 1 0"
    ∷ "0 1 ifnot 4 v1"
    ∷ "0 2 later 3 c8:0"
    ∷ "0 3 go 5"
    ∷ "0 4 later 3 v4"
    ∷ "0 5 go 0"
    ∷ []))
    × (output watchdog ≡
    lines
    ("threads 2"
    ∷ "0 0 wait 1 0"
    ∷ "0 1 ifnot 6 v1"
    ∷ "0 2 later 5 c12:0"
    ∷ "0 3 later 6 c8:0"
    ∷ "0 4 later 7 c1:0"
    ∷ "0 5 go 22"
    ∷ "0 6 later 5 v2"
    ∷ "0 7 ifnot 22 v9"
    ∷ "0 8 later 6 c8:1"
    ∷ "0 9 wait 1 0"
    ∷ "0 10 ifnot 14 o3 v9 o3 o2 v1 o2 v10"
    ∷ "0 11 later 6 o6 v6 c8:1"
    ∷ "0 12 wait 1 0"
    ∷ "0 13 go 10"
    ∷ "0 14 ifnot 21 v10"
    ∷ "0 15 later 7 c1:1"
    ∷ "0 16 wait 1 0"
    ∷ "0 17 ifnot 20 o3 o2 v4 o2 v1"
    ∷ "0 18 wait 1 0"
    ∷ "0 19 go 17"
    ∷ "0 20 later 7 c1:0"
    ∷ "0 21 later 6 c8:0"
    ∷ "0 22 go 0"
    ∷ "1 0 wait 1 0"
    ∷ "1 1 ifnot 4 v1"
    ∷ "1 2 later 8 c16:0"
    ∷ "1 3 go 6"
    ∷ "1 4 ifnot 6 v7"
    ∷ "1 5 later 8 o6 v8 c16:1"
    ∷ "1 6 go 0"
    ∷ []))
    × (output mixture ≡
    lines
    ("threads 1"
    ∷ "0 0 wait 2 0 0 1"
    ∷ "0 1 set 2 o6 v1 c8:5"
    ∷ "0 2 ifnot 4 v0"
    ∷ "0 3 set 2 o10 v0 o1 v2 u8"
    ∷ "0 4 go 0"
    ∷ []))
    × (output widest ≡
    lines
    ("threads 2"
    ∷ "0 0 later 1 c32:4294967295"
    ∷ "0 1 go 0"
    ∷ "1 0 wait 0 1"
    ∷ "1 1 go 0"
    ∷ "1 2 go 0"
    ∷ []))
    × (output [] ≡ lines ("refused 2" ∷ []))
    × (output (0x00 ∷ []) ≡ lines ("refused 3" ∷ []))
unfolding edge_of edge_number unary_width binary_width byte_at within word word_of word_at kind_of variable_at node read_expr tree size is_register read_terms narrow narrow_all form_of assignment form read_stmt read_widths read_functions inputs_of first_at function_count widths_at read_head read_wires read_threads whole_sheet read_sheet read translate thread_code ascii digits decimal show_expr show_term show_terms show_head show_instr show_line show_code show_threads show_module listing refusal printed output lines
samples = (refl, refl, refl, refl, refl, refl, refl)

-- Document 02, [5]: "the listing prints `f` with the number before" the arguments: of the tree, and of bytes in which the definition
-- of function 0 stands at byte 0, with two parameters, and a call of it at byte 1.
pub sample-call :
    (show_expr (call 0 8 (argument (variable 1) (argument (variable 2) no_more)) nothing) ≡ ascii "f0 v1 v2")
    × (text_at (0x02 ∷ 0x80 ∷ 0x00 ∷ 0x02 ∷ 0x01 ∷ 0x02 ∷ 0x02 ∷ []) (0 ∷ []) 1 ≡ ascii "f0 v1 v2")
unfolding ascii digits decimal show_expr show_all least argument_count operands_of mark_of behind operands_at node_at shown_at text_at
sample-call = (refl, refl)
