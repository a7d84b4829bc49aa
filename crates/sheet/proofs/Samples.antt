-- Worked examples of reading, computed: document 01's "Samples from the stands" and one sheet for each number.
use mathlib.Core.Path.{◌≡◌, refl}
use Prim.Native.Nat.{ℕ, zero, suc}
use mathlib.Core.List.{List, [], ◌∷◌, ◌++◌}
use lib.ListN.{replicate}
use Rattle.values.specs.declared.Edge.TheVariants.{Posedge}
use Rattle.values.specs.Operators.{unary_width, binary_width}
use Rattle.values.specs.Edges.{edge_of}
use Rattle.sheet.specs.Reading.{Res, ok, no, byte_at, within, word, word_of, word_at}
use Rattle.sheet.specs.Expression.{Expr, variable, constant, unary, binary, kind_of, variable_at, node, read_expr, tree, located}
use Rattle.sheet.specs.Statement.{Stmt, empty, later, sequence, if_then, forever, wait, size, is_register, read_terms, narrow, narrow_all, form_of, assignment, form, read_stmt}
use Rattle.sheet.specs.Functions.{read_functions, read_widths}
use Rattle.sheet.specs.Module.{Module, inputs_of, first_at, function_count, widths_at, read_head, read_wires, read_threads, whole_sheet, read_sheet, read}
use Rattle.sheet.specs.Answers.{starts_of, definitions_of, layout_of, sheet_answer}

-- ---- the flip-flop

flip_flop : List ℕ
flip_flop = 0x02 ∷ 0x01 ∷ 0x00 ∷ 0x01 ∷ 0x01 ∷ 0x08 ∷ 0x08 ∷ 0x0C ∷ 0x10 ∷ 0x01 ∷ 0x01 ∷ 0x00 ∷ 0x23 ∷ 0x02 ∷ 0x02 ∷ 0x01 ∷ []

-- always begin @(posedge v0) v2 <= v1; end
flip-flop : read flip_flop
    ≡ ok
    (record {
      scope = record { inputs = 2; registers = 1; widths = 1 ∷ 8 ∷ 8 ∷ []; declared = 0; functions = [] };
      wires = [];
      threads = sequence (wait (record { edge = Posedge; variable = 0 } ∷ [])) (later 2 (variable 1)) ∷ [];
    })
unfolding flip_flop read read_sheet whole_sheet read_head first_at inputs_of function_count widths_at read_functions read_widths read_wires read_threads read_stmt form assignment form_of is_register read_terms narrow narrow_all edge_of size tree read_expr node kind_of variable_at within byte_at
flip-flop = refl

flip-flop-answer : sheet_answer (read_sheet (located flip_flop) flip_flop)
    ≡ record {
      number = 0;
      place = 0;
      layout =
          record {
            inputs = 2;
            registers = 1;
            wires = 0;
            threads = 1;
            functions = 0;
            widths = 4;
            definitions = replicate 8 0;
            starts = replicate 32 0;
            body = 7;
          };
    }
unfolding flip_flop sheet_answer layout_of starts_of definitions_of read_sheet whole_sheet read_head first_at inputs_of function_count widths_at read_functions read_widths read_wires read_threads read_stmt form assignment form_of is_register read_terms narrow narrow_all edge_of size located tree read_expr node kind_of variable_at within byte_at
flip-flop-answer = refl

-- ---- a wire: v3 = v1 + 5

wire_sheet : ℕ → ℕ → List ℕ
wire_sheet w m = 0x02 ∷ 0x01 ∷ 0x01 ∷ 0x01 ∷ 0x01 ∷ 0x08 ∷ 0x08 ∷ w ∷ 0x31 ∷ 0x06 ∷ 0x02 ∷ 0x01 ∷ m ∷ 0x08 ∷ 0x05 ∷ 0x00 ∷ 0x00 ∷ 0x00 ∷ 0x00 ∷ []

a-wire : read (wire_sheet 8 0x0C)
    ≡ ok
    (record {
      scope = record { inputs = 2; registers = 1; widths = 1 ∷ 8 ∷ 8 ∷ 8 ∷ []; declared = 0; functions = [] };
      wires = binary 6 8 (variable 1) (constant 8 5) ∷ [];
      threads = empty ∷ [];
    })
unfolding wire_sheet read read_sheet whole_sheet read_head first_at inputs_of function_count widths_at read_functions read_widths read_wires read_threads read_stmt form form_of size tree read_expr node kind_of variable_at binary_width word_at word_of word within byte_at
a-wire = refl

-- ---- the numbers, with their places

-- A sheet of one input and the statement s, over a register of width 8.
unfoldable pub one : List ℕ → List ℕ
one s = 0x01 ∷ 0x01 ∷ 0x00 ∷ 0x01 ∷ 0x01 ∷ 0x08 ∷ s

-- n times ~, then s
unfoldable pub nots : ℕ → List ℕ → List ℕ
nots zero s = s
nots (suc n) s = 0x11 ∷ 0x01 ∷ nots n s

-- n times forever, then s
unfoldable pub forevers : ℕ → List ℕ → List ℕ
forevers n s = replicate n 0x44 ++ s

numbers :
    (read (replicate 8193 0) ≡ no 1 8192)
    × (read [] ≡ no 2 0)
    × (read (one (0x03 ∷ 0x01 ∷ 0x02 ∷ [])) ≡ no 2 9)
    × (read (0x00 ∷ []) ≡ no 3 0)
    × (read (0x10 ∷ 0x20 ∷ 0x20 ∷ 0x09 ∷ []) ≡ no 3 3)
    × (read (0x01 ∷ 0x01 ∷ 0x00 ∷ 0x01 ∷ 0x02 ∷ 0x08 ∷ []) ≡ no 4 4)
    × (read (0x01 ∷ 0x01 ∷ 0x00 ∷ 0x01 ∷ 0x01 ∷ 0x00 ∷ []) ≡ no 4 5)
    × (read (0x01 ∷ 0x01 ∷ 0x00 ∷ 0x01 ∷ 0x01 ∷ 0x21 ∷ []) ≡ no 4 5)
    × (read (one (0x04 ∷ [])) ≡ no 5 6)
    × (read (one (0x10 ∷ 0x09 ∷ [])) ≡ no 6 7)
    × (read (one (0x06 ∷ 0x0C ∷ 0x04 ∷ 0x10 ∷ 0x00 ∷ 0x00 ∷ 0x00 ∷ 0x00 ∷ [])) ≡ no 6 9)
    × (read (one (0x06 ∷ nots 16 (0x02 ∷ 0x01 ∷ 0x00 ∷ []))) ≡ no 7 39)
    × (read (one (forevers 64 (0x00 ∷ []))) ≡ no 7 70)
    × (read (wire_sheet 1 0x0C) ≡ no 8 8)
    × (read (one (0x10 ∷ 0x01 ∷ 0x01 ∷ 0x01 ∷ [])) ≡ no 8 6)
    × (read (one (0x23 ∷ 0x00 ∷ 0xFF ∷ [])) ≡ no 9 7)
    × (read (flip_flop ++ (0x00 ∷ [])) ≡ no 10 16)
unfolding flip_flop wire_sheet one nots forevers read read_sheet whole_sheet read_head first_at inputs_of function_count widths_at read_functions read_widths read_wires read_threads read_stmt form assignment form_of is_register read_terms narrow narrow_all edge_of size tree read_expr node kind_of variable_at unary_width binary_width word_at word_of word within byte_at
numbers = (refl, refl, refl, refl, refl, refl, refl, refl, refl, refl, refl, refl, refl, refl, refl, refl, refl)

-- ---- the limits: what is read at most

not_16 : ℕ → Expr
not_16 zero = variable 1
not_16 (suc n) = unary 1 8 (not_16 n)

forever-64 : ℕ → Stmt Expr
forever-64 zero = empty
forever-64 (suc n) = forever (forever-64 n)

only : Stmt Expr → Module Expr
only t = record { scope = record { inputs = 1; registers = 1; widths = 1 ∷ 8 ∷ []; declared = 0; functions = [] }; wires = []; threads = t ∷ [] }

-- "Depth at most 16", and "at most 64; the outermost is 1".
deepest :
    (read (one (0x06 ∷ nots 15 (0x02 ∷ 0x01 ∷ 0x00 ∷ []))) ≡ ok (only (if_then (not_16 15) empty)))
    × (read (one (forevers 63 (0x00 ∷ []))) ≡ ok (only (forever-64 63)))
unfolding one nots forevers not_16 forever-64 only read read_sheet whole_sheet read_head first_at inputs_of function_count widths_at read_functions read_widths read_wires read_threads read_stmt form form_of size tree read_expr node kind_of variable_at unary_width within byte_at
deepest = (refl, refl)

-- "Depth 64 read", and 8 wait pairs.
eight_pairs : List ℕ
eight_pairs = one (0x10 ∷ 0x08 ∷ replicate 16 0)

-- Five rows of forevers in sequence: 51 + 51 + 51 + 51 + n instructions, and the thread's own jump.
unfoldable pub long : ℕ → List ℕ
long n =
    0x0C ∷ 0x0C ∷ (forevers 51 (0x00 ∷ []) ++ (forevers 51 (0x00 ∷ [])
    ++ (0x0C ∷ 0x0C ∷ (forevers 51 (0x00 ∷ []) ++ (forevers 51 (0x00 ∷ []) ++ forevers n (0x00 ∷ []))))))

-- "256 instructions read, 257 is 11", at the thread's first byte.
is_read : {A : Type 0} → Res A → ℕ
is_read (ok a) = 1
is_read (no n p) = 0

longest : (is_read (read (one (long 51))) ≡ 1) × (read (one (long 52)) ≡ no 11 6) × (is_read (read eight_pairs) ≡ 1)
unfolding is_read one long forevers eight_pairs read read_sheet whole_sheet read_head first_at inputs_of function_count widths_at read_functions read_widths read_wires read_threads read_stmt form form_of size read_terms narrow narrow_all edge_of variable_at within byte_at
longest = (refl, refl, refl)
