-- Samples, computed: document 01's flip-flop, a module with a node of every kind and one with a function, encoded and read.
use mathlib.Core.Path.{◌≡◌, refl}
use Prim.Native.Nat.{ℕ}
use mathlib.Core.List.{List, [], ◌∷◌}
use Rattle.values.specs.Edges.{edge_of, edge_number}
use Rattle.values.specs.Operators.{unary_width, binary_width}
use Rattle.values.specs.declared.Edge.TheVariants.{Change, Posedge, Negedge}
use Rattle.sheet.specs.Reading.{ok, byte_at, within, word, word_of, word_at}
use Rattle.sheet.specs.Expression.{Expr, variable, constant, unknown, unary, binary, conditional, call, no_more, argument, Body, result, if_else as either_if, no_function, kind_of, variable_at, function_at, arguments_at, same_widths, node, read_expr, tree}
use Rattle.sheet.specs.Statement.{empty, assign, later, sequence, if_then, if_else, while, forever, wait, size, is_register, read_terms, narrow, narrow_all, form_of, assignment, form, read_stmt}
use Rattle.sheet.specs.Functions.{read_widths, body_form, read_body, body_scope, function_of, read_function, read_functions}
use Rattle.sheet.specs.Module.{Module, inputs_of, first_at, function_count, widths_at, read_head, read_wires, read_threads, whole_sheet, read_whole, read_sheet, read}
use Rattle.encoding.specs.Encoding.{encode_word, encode_expr, encode_all, encode_terms, encode_stmt, encode_wires, encode_threads, encode}
use Rattle.encoding.specs.WellFormed.{WellFormed}
use Rattle.encoding.specs.Whole.{encode_body, encode_function, encode_functions, first_byte, count_bytes, encode_whole, WholeFormed}
use Rattle.encoding.proofs.Whole.{whole-encode}
use Rattle.encoding.proofs.Bytes.{all-bytes, test-bytes}
use Rattle.encoding.proofs.Encoding.{read-encode}

-- ---- "Flip-flop sheet (hex): `02 01 00 01 01 08 08 0C 10 01 01 00 23 02 02 01`."

pub flip_flop : Module Expr
flip_flop =
    record {
      scope = record { inputs = 2; registers = 1; widths = 1 ∷ 8 ∷ 8 ∷ []; declared = 0; functions = [] };
      wires = [];
      threads = sequence (wait (record { edge = Posedge; variable = 0 } ∷ [])) (later 2 (variable 1)) ∷ [];
    }

pub flip_flop_sheet : List ℕ
flip_flop_sheet =
    0x02 ∷ 0x01 ∷ 0x00 ∷ 0x01 ∷ 0x01 ∷ 0x08 ∷ 0x08 ∷ 0x0C ∷ 0x10 ∷ 0x01 ∷ 0x01 ∷ 0x00 ∷ 0x23 ∷ 0x02 ∷ 0x02 ∷ 0x01 ∷ []

pub flip-flop-encode : encode flip_flop ≡ flip_flop_sheet
unfolding flip_flop flip_flop_sheet encode encode_wires encode_threads encode_stmt encode_terms encode_expr edge_number
flip-flop-encode = refl

pub flip-flop-read : read flip_flop_sheet ≡ ok flip_flop
unfolding flip_flop flip_flop_sheet read read_sheet whole_sheet read_head first_at inputs_of function_count widths_at read_functions read_widths read_wires read_threads read_stmt form form_of assignment read_terms narrow_all narrow is_register size tree read_expr kind_of node variable_at within byte_at edge_of
flip-flop-read = refl

pub flip-flop-well-formed : WellFormed flip_flop
unfolding flip_flop_sheet
flip-flop-well-formed = (read-encode flip_flop_sheet (all-bytes (test-bytes flip_flop_sheet refl)) flip-flop-read).0

-- ---- a node of every kind. Variables: the clock, inputs 1 and 2 (8 and 1 bits), registers 3 and 4 (32 and 1), wire 5 (8).

pub every_kind : Module Expr
every_kind =
    record {
      scope = record { inputs = 3; registers = 2; widths = 1 ∷ 8 ∷ 1 ∷ 32 ∷ 1 ∷ 8 ∷ []; declared = 0; functions = [] };
      wires = conditional (unary 2 8 (variable 1)) (binary 6 8 (variable 1) (constant 8 165)) (unknown 8) ∷ [];
      threads =
          sequence
          (wait (record { edge = Negedge; variable = 0 } ∷ record { edge = Change; variable = 1 } ∷ []))
          (if_else (variable 2)
          (while (binary 8 8 (variable 5) (variable 1)) (if_then (variable 4) (assign 3 (constant 32 0x12345678))))
          empty)
          ∷ forever (later 4 (unary 1 1 (variable 4)))
          ∷ [];
    }

pub every_kind_sheet : List ℕ
every_kind_sheet =
    0x03 ∷ 0x02 ∷ 0x01 ∷ 0x02 ∷ 0x01 ∷ 0x08 ∷ 0x01 ∷ 0x20 ∷ 0x01 ∷ 0x08 ∷
    0x71 ∷ 0x0A ∷ 0x11 ∷ 0x02 ∷ 0x02 ∷ 0x01 ∷ 0x31 ∷ 0x06 ∷ 0x02 ∷ 0x01 ∷ 0x0C ∷ 0x08 ∷ 0xA5 ∷ 0x00 ∷ 0x00 ∷ 0x00 ∷ 0x04 ∷ 0x08 ∷
    0x0C ∷ 0x10 ∷ 0x02 ∷ 0x02 ∷ 0x00 ∷ 0x00 ∷ 0x01 ∷ 0x0E ∷ 0x02 ∷ 0x02 ∷ 0x46 ∷ 0x31 ∷ 0x08 ∷ 0x02 ∷ 0x05 ∷ 0x02 ∷ 0x01 ∷
    0x06 ∷ 0x02 ∷ 0x04 ∷ 0x03 ∷ 0x03 ∷ 0x0C ∷ 0x20 ∷ 0x78 ∷ 0x56 ∷ 0x34 ∷ 0x12 ∷ 0x00 ∷
    0x44 ∷ 0x23 ∷ 0x04 ∷ 0x11 ∷ 0x01 ∷ 0x02 ∷ 0x04 ∷ []

pub every-kind-encode : encode every_kind ≡ every_kind_sheet
unfolding every_kind every_kind_sheet encode encode_wires encode_threads encode_stmt encode_terms encode_expr encode_word edge_number
every-kind-encode = refl

pub every-kind-read : read every_kind_sheet ≡ ok every_kind
unfolding every_kind every_kind_sheet read read_sheet whole_sheet read_head first_at inputs_of function_count widths_at read_functions read_widths read_wires read_threads read_stmt form form_of assignment read_terms narrow_all narrow is_register size tree read_expr kind_of node variable_at word_at word_of word within byte_at edge_of unary_width binary_width
every-kind-read = refl

pub every-kind-well-formed : WellFormed every_kind
unfolding every_kind_sheet
every-kind-well-formed = (read-encode every_kind_sheet (all-bytes (test-bytes every_kind_sheet refl)) every-kind-read).0

-- ---- a function: clamp(a, limit) of 8 bits, if (limit < a) f = limit; else f = a; and v2 <= clamp(v1, v2)

pub clamp_body : Body
clamp_body = either_if (binary 9 8 (variable 1) (variable 0)) (result (variable 1)) (result (variable 0))

pub clamp : Module Expr
clamp =
    record {
      scope =
          record {
            inputs = 2;
            registers = 1;
            widths = 1 ∷ 8 ∷ 8 ∷ [];
            declared = 1;
            functions = record { parameters = 8 ∷ 8 ∷ []; result = 8; body = clamp_body } ∷ [];
          };
      wires = [];
      threads = later 2 (call 0 8 (argument (variable 1) (argument (variable 2) no_more)) clamp_body) ∷ [];
    }

pub clamp_sheet : List ℕ
clamp_sheet =
    0x82 ∷ 0x01 ∷ 0x00 ∷ 0x01 ∷ 0x01 ∷ 0x01 ∷ 0x08 ∷ 0x08 ∷
    0x02 ∷ 0x08 ∷ 0x08 ∷ 0x08 ∷ 0x0E ∷ 0x31 ∷ 0x09 ∷ 0x02 ∷ 0x01 ∷ 0x02 ∷ 0x00 ∷ 0x03 ∷ 0x02 ∷ 0x02 ∷ 0x01 ∷ 0x03 ∷ 0x02 ∷ 0x02 ∷ 0x00 ∷
    0x23 ∷ 0x02 ∷ 0x80 ∷ 0x00 ∷ 0x02 ∷ 0x01 ∷ 0x02 ∷ 0x02 ∷ []

pub clamp-encode : encode_whole clamp ≡ clamp_sheet
unfolding clamp_body clamp clamp_sheet encode_whole first_byte count_bytes encode_functions encode_function encode_body encode_wires encode_threads encode_stmt encode_expr encode_all
clamp-encode = refl

pub clamp-read : read_whole clamp_sheet ≡ ok clamp
unfolding clamp_body clamp clamp_sheet read_whole whole_sheet read_head first_at inputs_of function_count widths_at read_widths read_functions read_function function_of body_scope read_body body_form read_wires read_threads read_stmt form assignment form_of is_register size tree read_expr node kind_of variable_at function_at no_function arguments_at same_widths unary_width binary_width within byte_at
clamp-read = refl

pub clamp-whole-formed : WholeFormed clamp
unfolding clamp_sheet
clamp-whole-formed = (whole-encode clamp_sheet (all-bytes (test-bytes clamp_sheet refl)) clamp-read).0
