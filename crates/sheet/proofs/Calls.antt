-- Worked examples of sheets with functions, computed: a clamp, and one sheet for each way to be refused.
use mathlib.Core.Path.{◌≡◌, refl}
use Prim.Native.Nat.{ℕ}
use mathlib.Core.List.{List, [], ◌∷◌, ◌++◌}
use lib.ListN.{replicate}
use Rattle.values.specs.Operators.{unary_width, binary_width}
use Rattle.sheet.specs.Reading.{ok, no, byte_at, within}
use Rattle.sheet.specs.Expression.{variable, binary, call, no_more, argument, Body, result, if_else, no_function, kind_of, variable_at, function_at, arguments_at, same_widths, node, read_expr, tree, located}
use Rattle.sheet.specs.Statement.{later, is_register, size, form_of, assignment, form, read_stmt}
use Rattle.sheet.specs.Functions.{read_widths, body_form, read_body, body_scope, function_of, read_function, read_functions}
use Rattle.sheet.specs.Module.{inputs_of, first_at, function_count, widths_at, read_head, read_wires, read_threads, whole_sheet, read_whole}
use Rattle.sheet.specs.Answers.{starts_of, definitions_of, layout_of, sheet_answer}

-- Two inputs, a register, no wires, one thread, and n functions; the widths of the variables are 1, 8 and 8.
unfoldable pub counts : ℕ → List ℕ → List ℕ
counts n s = 0x82 ∷ 0x01 ∷ 0x00 ∷ 0x01 ∷ n ∷ 0x01 ∷ 0x08 ∷ 0x08 ∷ s

-- clamp(a, limit), 8 bits: if (limit < a) f = limit; else f = a;
clamp : List ℕ
clamp = 0x02 ∷ 0x08 ∷ 0x08 ∷ 0x08 ∷ 0x0E ∷ 0x31 ∷ 0x09 ∷ 0x02 ∷ 0x01 ∷ 0x02 ∷ 0x00 ∷ 0x03 ∷ 0x02 ∷ 0x02 ∷ 0x01 ∷ 0x03 ∷ 0x02 ∷ 0x02 ∷ 0x00 ∷ []

-- v2 <= clamp(v1, v2)
clamped : List ℕ
clamped = counts 1 (clamp ++ (0x23 ∷ 0x02 ∷ 0x80 ∷ 0x00 ∷ 0x02 ∷ 0x01 ∷ 0x02 ∷ 0x02 ∷ []))

body : Body
body = if_else (binary 9 8 (variable 1) (variable 0)) (result (variable 1)) (result (variable 0))

-- "Inside a body, variable bytes 0 up name the parameters and the next byte the result, the only target."
clamp-read : read_whole clamped
    ≡ ok
    (record {
      scope =
          record {
            inputs = 2;
            registers = 1;
            widths = 1 ∷ 8 ∷ 8 ∷ [];
            declared = 1;
            functions = record { parameters = 8 ∷ 8 ∷ []; result = 8; body = body } ∷ [];
          };
      wires = [];
      threads = later 2 (call 0 8 (argument (variable 1) (argument (variable 2) no_more)) body) ∷ [];
    })
unfolding counts clamp clamped body read_whole whole_sheet read_head first_at inputs_of function_count widths_at read_widths read_functions read_function function_of body_scope read_body body_form read_wires read_threads read_stmt form assignment form_of is_register size tree read_expr node kind_of variable_at function_at no_function arguments_at same_widths unary_width binary_width within byte_at
clamp-read = refl

-- The widths begin at byte 5, the function at byte 8, the thread at byte 27.
clamp-answer : sheet_answer (whole_sheet (located clamped) clamped)
    ≡ record {
      number = 0;
      place = 0;
      layout =
          record {
            inputs = 2;
            registers = 1;
            wires = 0;
            threads = 1;
            functions = 1;
            widths = 5;
            definitions = 8 ∷ replicate 7 0;
            starts = replicate 32 0;
            body = 27;
          };
    }
unfolding counts clamp clamped sheet_answer layout_of starts_of definitions_of whole_sheet read_head first_at inputs_of function_count widths_at read_widths read_functions read_function function_of body_scope read_body body_form read_wires read_threads read_stmt form assignment form_of is_register size located tree read_expr node kind_of variable_at function_at no_function arguments_at same_widths unary_width binary_width within byte_at
clamp-answer = refl

-- the head: 80h is no input, 91h seventeen; no functions, nine functions; five parameters; a width of 33
heads :
    (read_whole (0x80 ∷ []) ≡ no 3 0)
    × (read_whole (0x91 ∷ []) ≡ no 3 0)
    × (read_whole (0x82 ∷ 0x01 ∷ 0x00 ∷ 0x01 ∷ []) ≡ no 2 4)
    × (read_whole (counts 0 []) ≡ no 3 4)
    × (read_whole (counts 9 []) ≡ no 3 4)
    × (read_whole (counts 1 []) ≡ no 2 8)
    × (read_whole (counts 1 (0x00 ∷ [])) ≡ no 3 8)
    × (read_whole (counts 1 (0x05 ∷ [])) ≡ no 3 8)
    × (read_whole (counts 1 (0x01 ∷ 0x21 ∷ [])) ≡ no 4 9)
    × (read_whole (counts 1 (0x01 ∷ 0x08 ∷ 0x00 ∷ [])) ≡ no 4 10)
unfolding counts read_whole whole_sheet read_head first_at inputs_of function_count widths_at read_widths read_functions read_function function_of body_scope read_body body_form read_wires read_threads read_stmt form form_of is_register size tree read_expr node kind_of variable_at function_at no_function arguments_at same_widths unary_width binary_width within byte_at
heads = (refl, refl, refl, refl, refl, refl, refl, refl, refl, refl)

-- a function of one parameter of 8 bits, with a result of 8 bits
one : List ℕ → List ℕ
one s = counts 1 (0x01 ∷ 0x08 ∷ 0x08 ∷ s)

-- "a body with a wait, loop or later assignment (45) .. when the map is" read; another map is 5; a parameter is no target;
-- "6 if there is none such"; "a call to the same or a later function (44)"; a width that is not the parameter's
bodies :
    (read_whole (one (0x23 ∷ [])) ≡ no 45 11)
    × (read_whole (one (0x10 ∷ 0x09 ∷ [])) ≡ no 45 11)
    × (read_whole (one (0x44 ∷ [])) ≡ no 45 11)
    × (read_whole (one (0x46 ∷ 0xFF ∷ [])) ≡ no 45 11)
    × (read_whole (one (0xFF ∷ [])) ≡ no 5 11)
    × (read_whole (one (0x03 ∷ 0x00 ∷ 0xFF ∷ [])) ≡ no 9 12)
    × (read_whole (one (0x03 ∷ 0x02 ∷ 0xFF ∷ [])) ≡ no 9 12)
    × (read_whole (one (0x03 ∷ 0x01 ∷ 0x80 ∷ 0x01 ∷ 0xFF ∷ [])) ≡ no 6 14)
    × (read_whole (one (0x03 ∷ 0x01 ∷ 0x80 ∷ 0x00 ∷ 0xFF ∷ [])) ≡ no 44 14)
    × (read_whole (one (0x00 ∷ 0x23 ∷ 0x02 ∷ 0x80 ∷ 0x00 ∷ 0x02 ∷ 0x00 ∷ [])) ≡ no 8 14)
    × (read_whole (one (0x00 ∷ 0x23 ∷ 0x02 ∷ 0x80 ∷ 0x00 ∷ 0xFF ∷ [])) ≡ no 5 16)
    × (read_whole (one (0x0C ∷ 0x00 ∷ [])) ≡ no 2 13)
unfolding counts one read_whole whole_sheet read_head first_at inputs_of function_count widths_at read_widths read_functions read_function function_of body_scope read_body body_form read_wires read_threads read_stmt form assignment form_of is_register size tree read_expr node kind_of variable_at function_at no_function arguments_at same_widths unary_width binary_width within byte_at
bodies = (refl, refl, refl, refl, refl, refl, refl, refl, refl, refl, refl, refl)

-- The second function may call the first; in a sheet without functions 80h is no map.
calls :
    (read_whole (counts 2 (0x01 ∷ 0x08 ∷ 0x08 ∷ 0x00 ∷ 0x01 ∷ 0x08 ∷ 0x08 ∷ 0x03 ∷ 0x01 ∷ 0x80 ∷ 0x01 ∷ [])) ≡ no 44 18)
    × (read_whole (counts 2 (0x01 ∷ 0x08 ∷ 0x08 ∷ 0x00 ∷ 0x01 ∷ 0x08 ∷ 0x08 ∷ 0x03 ∷ 0x01 ∷ 0x80 ∷ 0x00 ∷ 0x02 ∷ 0x00 ∷ [])) ≡ no 2 21)
    × (read_whole (0x01 ∷ 0x01 ∷ 0x00 ∷ 0x01 ∷ 0x01 ∷ 0x08 ∷ 0x06 ∷ 0x80 ∷ 0x00 ∷ []) ≡ no 5 7)
unfolding counts read_whole whole_sheet read_head first_at inputs_of function_count widths_at read_widths read_functions read_function function_of body_scope read_body body_form read_wires read_threads read_stmt form form_of is_register size tree read_expr node kind_of variable_at function_at no_function arguments_at same_widths unary_width binary_width within byte_at
calls = (refl, refl, refl)
