-- Samples, computed: texts with their sheets and their numbers.
-- Assumes nothing.
use mathlib.Core.Path.{◌≡◌, refl}
use mathlib.Core.List.{List, [], ◌∷◌}
use Prim.Native.Nat.{ℕ}
use Prim.Native.String.{String}
use Rattle.values.specs.Edges.{edge_of, edge_number}
use Rattle.values.specs.Operators.{unary_width, binary_width}
use Rattle.writing.specs.Ascii.{ascii}
use Rattle.sheet.specs.Reading.{byte_at, within, word, word_of, word_at}
use Rattle.sheet.specs.Expression.{kind_of, variable_at, node, read_expr, tree}
use Rattle.sheet.specs.Statement.{size, is_register, read_terms, narrow, narrow_all, form_of, assignment, form, read_stmt}
use Rattle.sheet.specs.Functions.{read_widths, read_functions}
use Rattle.sheet.specs.Module.{inputs_of, first_at, function_count, widths_at, read_head, read_wires, read_threads, whole_sheet, read_sheet, read}
use Rattle.encoding.specs.Encoding.{encode_word, encode_expr, encode_terms}
use Rattle.verilog_grammar.specs.Reader.{unsigned as unsigned_reader, naught, constant, further_listed, listed, list, bounds, range, declaration, net_assignment, continuous_assign, always_construct, module_item, module_end, module_more, module_items, ended, read_module}
use Rattle.verilog_tokens.specs.Table.{name_in, names_in, place_of}
use Rattle.verilog_source.specs.Names.{kind_number, of_width, variables, declared, driven, threads, in_order, name_of, number_of, is_among as is_among_names, missing, repeated, used, target_of, faults, lower, lowest}
use Rattle.verilog_source.specs.Written.{written_stmt, written_threads, written_widths, value_for, written_wires, written}
use Rattle.verilog_source.specs.Compiled.{refused, accepted, unnumbered, parts_of, sheet_of, judged, named, spot, derived, short, lent_right, compiled}
use Rattle.verilog_tokens.specs.Tokens.{Token, tokens, places}
use Rattle.verilog_grammar.proofs.Samples.{sample}

-- A text's tokens, with every definition open that makes a sheet of them.
unfoldable pub opened : String → List Token
unfolding sample places edge_of edge_number unary_width binary_width byte_at within word word_of word_at kind_of variable_at node read_expr tree size
    is_register read_terms narrow narrow_all form_of assignment form read_stmt read_widths inputs_of first_at function_count
    widths_at read_head read_functions read_wires read_threads whole_sheet read_sheet read
    encode_word encode_expr encode_terms unsigned_reader naught constant further_listed listed list bounds range declaration net_assignment
    continuous_assign always_construct module_item module_end module_more module_items ended read_module kind_number of_width variables declared
    driven threads in_order name_of place_of number_of is_among_names missing repeated name_in names_in used target_of faults lower lowest
    written_stmt written_threads written_widths value_for written_wires written refused accepted unnumbered parts_of sheet_of judged named
    spot derived short lent_right compiled
opened s = tokens (ascii s)

-- The sheet that a text Gives.
abbrev pub Gives : String → List ℕ → Type 0
Gives s bytes = sheet_of (tokens (ascii s)) (parts_of (read_module unnumbered (tokens (ascii s)))) ≡ bytes

-- The number, the place and the length that a text gets with 8,192 bytes lent.
abbrev pub Answers : String → ℕ → ℕ → ℕ → Type 0
Answers s n p l = (derived (ascii s) [] (read_module unnumbered (tokens (ascii s)))).answer ≡ record { number = n; place = p; length = l }

-- ---- document 01's flip-flop: "`02 01 00 01 01 08 08 0C 10 01 01 00 23 02 02 01`"

pub flip-flop : Gives "module f(c,d);input c;input[7:0]d;reg[7:0]q;always@(posedge c)q<=d;endmodule"
    (0x02 ∷ 0x01 ∷ 0x00 ∷ 0x01 ∷ 0x01 ∷ 0x08 ∷ 0x08 ∷ 0x0C ∷ 0x10 ∷ 0x01 ∷ 0x01 ∷ 0x00 ∷ 0x23 ∷ 0x02 ∷ 0x02 ∷ 0x01 ∷ [])
unfolding opened
flip-flop = refl

-- ---- numbers as declared within their kind, wires' expressions in the wires' order, constants cut, a width past the range as 255

pub numbering : Gives "module m(c);wire v,w;assign w=4'd255,v=r;input c;reg[40:0]r;always r=33'h1ffffffff;endmodule"
    (1 ∷ 1 ∷ 2 ∷ 1 ∷ 1 ∷ 255 ∷ 1 ∷ 1 ∷ 0x02 ∷ 1 ∷ 0x0C ∷ 4 ∷ 15 ∷ 0 ∷ 0 ∷ 0 ∷ 0x03 ∷ 1 ∷ 0x0C ∷ 255 ∷ 255 ∷ 255 ∷ 255 ∷ 255 ∷ [])
unfolding opened
numbering = refl

-- ---- the numbers

pub accepted-text : Answers "module f(c,d);input c;input[7:0]d;reg[7:0]q;always@(posedge c)q<=d;endmodule" 0 0 16
unfolding opened
accepted-text = refl

-- 42 at the first token that no derivation goes on with, before 43; at the text's end where it ends early.
pub underived-texts : Answers "module m(c);reg c,c;output x;endmodule" 42 20 0
    × Answers "module m(c);input c;" 42 20 0
    × Answers "" 42 0 0
unfolding opened
underived-texts = (refl, refl, refl)

-- 43: undeclared, declared twice, assigns to no wire, twice, or none.
pub faulty-names : Answers "module m(c);input c;reg r;always r=x;endmodule" 43 35 0
    × Answers "module m(c);input c;reg c;endmodule" 43 24 0
    × Answers "module m(c);input c;assign c=c;endmodule" 43 27 0
    × Answers "module m(c);input c;wire w;assign w=c,w=c;endmodule" 43 38 0
    × Answers "module m(c);input c;wire w;endmodule" 43 25 0
unfolding opened
faulty-names = (refl, refl, refl, refl, refl)

-- The sheet's own numbers: no registers (3), a register wider than its expression (8), an assignment to an input (9).
pub own-numbers : Answers "module m(c);input c;always;endmodule" 42 26 0
    × Answers "module m(c);input c;always begin end endmodule" 3 1 0
    × Answers "module m(c);input c;reg[1:0]r;always r=c;endmodule" 8 6 0
    × Answers "module m(c);input c;reg r;always c=r;endmodule" 9 7 0
unfolding opened
own-numbers = (refl, refl, refl, refl)
