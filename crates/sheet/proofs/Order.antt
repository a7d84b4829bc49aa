-- The order in which the numbers 1 to 11 are met, computed: "Met first from left to right in the sheet; in a node: end,
-- depth, map, each field as read, then widths." Most sheets here have two faults; the number and the place are the first one's.
use mathlib.Core.Path.{◌≡◌, refl}
use Prim.Native.Nat.{ℕ}
use mathlib.Core.List.{List, [], ◌∷◌, ◌++◌}
use Rattle.values.specs.Operators.{unary_width, binary_width}
use Rattle.values.specs.Edges.{edge_of}
use Rattle.sheet.specs.Reading.{no, byte_at, within, word, word_of, word_at}
use Rattle.sheet.specs.Expression.{kind_of, variable_at, node, read_expr, tree}
use Rattle.sheet.specs.Statement.{size, is_register, read_terms, narrow, narrow_all, form_of, assignment, form, read_stmt}
use Rattle.sheet.specs.Functions.{read_widths, read_functions}
use Rattle.sheet.specs.Module.{inputs_of, first_at, function_count, widths_at, read_head, read_wires, read_threads, whole_sheet, read_sheet, read}
use Rattle.sheet.proofs.Samples.{one, nots, forevers, long}

-- Two threads in place of one.
two : List ℕ → List ℕ
two s = 0x01 ∷ 0x01 ∷ 0x00 ∷ 0x02 ∷ 0x01 ∷ 0x08 ∷ s

-- One thread, and two wires of width 1.
wired : List ℕ → List ℕ
wired s = 0x01 ∷ 0x01 ∷ 0x02 ∷ 0x01 ∷ 0x01 ∷ 0x08 ∷ 0x01 ∷ 0x01 ∷ s

-- "in a node: end, depth, map", of an expression and of a statement
end-depth-map :
    (read (one (0x06 ∷ nots 16 [])) ≡ no 2 39)
    × (read (one (0x06 ∷ nots 16 (0xFF ∷ []))) ≡ no 7 39)
    × (read (one (forevers 64 [])) ≡ no 2 70)
    × (read (one (forevers 64 (0xFF ∷ []))) ≡ no 7 70)
unfolding one nots forevers read read_sheet whole_sheet read_head first_at inputs_of function_count widths_at read_functions read_widths read_wires read_threads read_stmt form assignment form_of is_register read_terms narrow narrow_all edge_of size tree read_expr node kind_of variable_at unary_width binary_width word_at word_of word within byte_at
end-depth-map = (refl, refl, refl, refl)

-- the counts from left to right, then the clock's width, then the next, which is missing
counts-and-widths :
    (read (0x01 ∷ 0x21 ∷ 0x21 ∷ 0x09 ∷ 0x02 ∷ []) ≡ no 3 1)
    × (read (0x01 ∷ 0x01 ∷ 0x00 ∷ 0x09 ∷ 0x02 ∷ []) ≡ no 3 3)
    × (read (0x01 ∷ 0x01 ∷ 0x00 ∷ 0x01 ∷ 0x02 ∷ []) ≡ no 4 4)
    × (read (0x01 ∷ 0x01 ∷ 0x00 ∷ 0x01 ∷ 0x01 ∷ []) ≡ no 2 5)
unfolding read read_sheet whole_sheet read_head first_at inputs_of function_count widths_at read_functions read_widths read_wires read_threads read_stmt form assignment form_of is_register read_terms narrow narrow_all edge_of size tree read_expr node kind_of variable_at unary_width binary_width word_at word_of word within byte_at
counts-and-widths = (refl, refl, refl, refl)

-- "each field as read": the operator before its operands, for each map
operator-first :
    (read (one (0x06 ∷ 0x11 ∷ 0x03 ∷ 0xFF ∷ [])) ≡ no 6 8)
    × (read (one (0x06 ∷ 0x31 ∷ 0x0A ∷ 0xFF ∷ [])) ≡ no 6 8)
    × (read (one (0x06 ∷ 0x71 ∷ 0x09 ∷ 0xFF ∷ [])) ≡ no 6 8)
unfolding one read read_sheet whole_sheet read_head first_at inputs_of function_count widths_at read_functions read_widths read_wires read_threads read_stmt form assignment form_of is_register read_terms narrow narrow_all edge_of size tree read_expr node kind_of variable_at unary_width binary_width word_at word_of word within byte_at
operator-first = (refl, refl, refl)

-- "then widths": after the last operand's map; those of the left operand before the right one's map
operands-then-widths :
    (read (one (0x06 ∷ 0x31 ∷ 0x03 ∷ 0x02 ∷ 0x00 ∷ 0xFF ∷ [])) ≡ no 5 11)
    × (read (one (0x06 ∷ 0x31 ∷ 0x03 ∷ 0x31 ∷ 0x03 ∷ 0x02 ∷ 0x00 ∷ 0x02 ∷ 0x01 ∷ 0xFF ∷ [])) ≡ no 8 9)
    × (read (one (0x06 ∷ 0x71 ∷ 0x0A ∷ 0x02 ∷ 0x00 ∷ 0x02 ∷ 0x00 ∷ 0xFF ∷ [])) ≡ no 5 13)
    × (read (one (0x06 ∷ 0x71 ∷ 0x0A ∷ 0x02 ∷ 0x00 ∷ 0x02 ∷ 0x00 ∷ 0x02 ∷ 0x01 ∷ [])) ≡ no 8 7)
unfolding one read read_sheet whole_sheet read_head first_at inputs_of function_count widths_at read_functions read_widths read_wires read_threads read_stmt form assignment form_of is_register read_terms narrow narrow_all edge_of size tree read_expr node kind_of variable_at unary_width binary_width word_at word_of word within byte_at
operands-then-widths = (refl, refl, refl, refl)

-- a constant: its width, then four bytes, then whether the value is below 2^width
constant-fields :
    (read (one (0x06 ∷ 0x0C ∷ 0x00 ∷ [])) ≡ no 6 8)
    × (read (one (0x06 ∷ 0x0C ∷ 0x01 ∷ 0xFF ∷ 0x00 ∷ 0x00 ∷ [])) ≡ no 2 12)
    × (read (one (0x06 ∷ 0x0C ∷ 0x01 ∷ 0xFF ∷ 0x00 ∷ 0x00 ∷ 0x00 ∷ [])) ≡ no 6 9)
unfolding one read read_sheet whole_sheet read_head first_at inputs_of function_count widths_at read_functions read_widths read_wires read_threads read_stmt form assignment form_of is_register read_terms narrow narrow_all edge_of size tree read_expr node kind_of variable_at unary_width binary_width word_at word_of word within byte_at
constant-fields = (refl, refl, refl)

-- a wait: its count, then its pairs, edge before variable, then widths
wait-fields :
    (read (one (0x10 ∷ 0x09 ∷ 0xFF ∷ [])) ≡ no 6 7)
    × (read (one (0x10 ∷ 0x01 ∷ 0x03 ∷ 0x09 ∷ [])) ≡ no 6 8)
    × (read (one (0x10 ∷ 0x02 ∷ 0x01 ∷ 0x01 ∷ 0x03 ∷ 0x00 ∷ [])) ≡ no 6 10)
    × (read (one (0x10 ∷ 0x02 ∷ 0x01 ∷ 0x01 ∷ [])) ≡ no 2 10)
    × (read (one (0x10 ∷ 0x02 ∷ 0x01 ∷ 0x01 ∷ 0x00 ∷ 0x00 ∷ [])) ≡ no 8 6)
unfolding one read read_sheet whole_sheet read_head first_at inputs_of function_count widths_at read_functions read_widths read_wires read_threads read_stmt form assignment form_of is_register read_terms narrow narrow_all edge_of size tree read_expr node kind_of variable_at unary_width binary_width word_at word_of word within byte_at
wait-fields = (refl, refl, refl, refl, refl)

-- an assignment: its target, then its expression, then widths
target_first :
    (read (one (0x03 ∷ [])) ≡ no 2 7)
    × (read (one (0x03 ∷ 0x02 ∷ [])) ≡ no 9 7)
    × (read (one (0x03 ∷ 0x02 ∷ 0xFF ∷ [])) ≡ no 9 7)
    × (read (one (0x03 ∷ 0x01 ∷ 0x02 ∷ 0x02 ∷ [])) ≡ no 6 9)
    × (read (one (0x03 ∷ 0x01 ∷ 0x02 ∷ 0x00 ∷ [])) ≡ no 8 6)
unfolding one read read_sheet whole_sheet read_head first_at inputs_of function_count widths_at read_functions read_widths read_wires read_threads read_stmt form assignment form_of is_register read_terms narrow narrow_all edge_of size tree read_expr node kind_of variable_at unary_width binary_width word_at word_of word within byte_at
target_first = (refl, refl, refl, refl, refl)

-- "Met first from left to right": a condition before its body, the first part before the second,
-- a wire before the next one and before the thread
left-to-right :
    (read (one (0x06 ∷ 0x02 ∷ 0x02 ∷ 0xFF ∷ [])) ≡ no 6 8)
    × (read (one (0x0C ∷ 0xFF ∷ 0x03 ∷ 0x02 ∷ [])) ≡ no 5 7)
    × (read (wired (0x02 ∷ 0x01 ∷ 0xFF ∷ [])) ≡ no 8 8)
    × (read (wired (0x02 ∷ 0x00 ∷ 0x02 ∷ 0x01 ∷ 0xFF ∷ [])) ≡ no 8 10)
unfolding one wired read read_sheet whole_sheet read_head first_at inputs_of function_count widths_at read_functions read_widths read_wires read_threads read_stmt form assignment form_of is_register read_terms narrow narrow_all edge_of size tree read_expr node kind_of variable_at unary_width binary_width word_at word_of word within byte_at
left-to-right = (refl, refl, refl, refl)

-- "11 thread over 256, at its end": before the next thread, and before "10 bytes after the end"
size-at-its-end :
    (read (two (long 52 ++ (0xFF ∷ []))) ≡ no 11 6)
    × (read (one (long 52 ++ (0x00 ∷ []))) ≡ no 11 6)
unfolding forevers one long two read read_sheet whole_sheet read_head first_at inputs_of function_count widths_at read_functions read_widths read_wires read_threads read_stmt form assignment form_of is_register read_terms narrow narrow_all edge_of size tree read_expr node kind_of variable_at unary_width binary_width word_at word_of word within byte_at
size-at-its-end = (refl, refl)
