-- Worked examples, computed: what the code answers at place 0 of some bytes, by its definition; what a call is worth.
use mathlib.Core.Path.{◌≡◌, refl}
use mathlib.Core.Bool.{true, false}
use mathlib.Core.List.{List, [], ◌∷◌, ◌++◌}
use Prim.Native.Nat.{ℕ, zero, suc}
use Rattle.values.specs.declared.Value.{Value}
use Rattle.values.specs.Values.{known, ones, all_unknown, holds}
use Rattle.values.specs.Cells.{cell_of, number_in, marks_in, value_of, cell_at}
use Rattle.values.specs.Operators.{binary_width, sum, difference, flag, possible, marked, between, certain, both, binary, agreed, choice}
use Rattle.sheet.specs.Reading.{word, word_of}
use Rattle.sheet.specs.Expression as trees
use Rattle.sheet.specs.Parts.{definition_at}
use Rattle.evaluation.specs.Evaluation.{eval, reads}
use Rattle.evaluation.specs.Bytes.{nothing, variable_node, unary_node, binary_node, conditional_node, inner_node, node_at, work_at, eval_at}
use Rattle.evaluation.specs.Bytes.{passed, operands_of, skip_node, skip_at, skip_form, skip_body, result_form, turn_form, if_form, else_form, form_at, run_at, arguments_at, call_node, calls_at, eval_in}

-- Variable 0 is the clock, 1 and 2 have width 4, 3 has width 8.
abbrev widths : List ℕ
widths = 1 ∷ 4 ∷ 4 ∷ 8 ∷ []

-- The clock is x, variable 1 is 15, variable 2 is 5, variable 3 is x.
abbrev env : ℕ → Value
env zero = all_unknown 1
env (suc zero) = known 15
env (suc (suc zero)) = known 5
env (suc (suc (suc v))) = all_unknown 8

-- "Width 4: 15 + 1 = 0": v1 + 1.
abbrev sum-bytes : List ℕ
sum-bytes = 0x31 ∷ 6 ∷ 0x02 ∷ 1 ∷ 0x0C ∷ 4 ∷ 1 ∷ 0 ∷ 0 ∷ 0 ∷ []

pub sample-sum : eval_at 16 sum-bytes widths env 0 ≡ record { value = known 0; width = 4; next = 10 }
unfolding eval_at work_at node_at inner_node variable_node binary_node word_of word binary certain marked known sum binary_width
sample-sum = refl

-- "0 & x is 0": v3 & 0.
pub sample-x : eval_at 16 (0x31 ∷ 3 ∷ 0x02 ∷ 3 ∷ 0x0C ∷ 8 ∷ 0 ∷ 0 ∷ 0 ∷ 0 ∷ []) widths env 0 ≡ record { value = known 0; width = 8; next = 10 }
unfolding eval_at work_at node_at inner_node variable_node binary_node word_of word binary both between possible known all_unknown ones binary_width
sample-x = refl

-- "`?:` on an unknown condition keeps bits in which both arms agree": v0 ? v1 : v2 of 15 and 5 is 4'bx1x1.
pub sample-choice-x : eval_at 16 (0x71 ∷ 10 ∷ 0x02 ∷ 0 ∷ 0x02 ∷ 1 ∷ 0x02 ∷ 2 ∷ []) widths env 0
    ≡ record { value = record { number = 5; unknown = 10 }; width = 4; next = 8 }
unfolding eval_at work_at node_at inner_node variable_node conditional_node choice holds agreed marked known all_unknown ones
sample-choice-x = refl

-- Nested: v1 < v2 ? v1 : v2 - v1, which is 5 - 15 at width 4.
pub sample-nested : eval_at 16 (0x71 ∷ 10 ∷ 0x31 ∷ 9 ∷ 0x02 ∷ 1 ∷ 0x02 ∷ 2 ∷ 0x02 ∷ 1 ∷ 0x31 ∷ 7 ∷ 0x02 ∷ 2 ∷ 0x02 ∷ 1 ∷ []) widths env 0
    ≡ record { value = known 6; width = 4; next = 16 }
unfolding eval_at work_at node_at inner_node variable_node binary_node conditional_node binary certain marked known difference flag binary_width choice holds
sample-nested = refl

-- No level left, and no bytes.
pub sample-deep : eval_at 1 sum-bytes widths env 0 ≡ record { value = all_unknown 0; width = 0; next = 0 }
unfolding eval_at work_at node_at inner_node nothing binary_node binary certain marked known sum all_unknown ones binary_width
sample-deep = refl

pub sample-empty : eval_at 16 [] widths env 0 ≡ nothing
unfolding eval_at work_at node_at inner_node
sample-empty = refl

-- ---- calls

-- f(a, limit): if (limit < a) f = limit; else f = a; called as f(v1, v2).
abbrev clamp : trees.Expr
clamp =
    trees.call 0 4 (trees.argument (trees.variable 1) (trees.argument (trees.variable 2) trees.no_more))
    (trees.if_else (trees.binary 9 4 (trees.variable 1) (trees.variable 0)) (trees.result (trees.variable 1)) (trees.result (trees.variable 0)))

-- 15 with the limit 5.
pub sample-clamp : eval env clamp ≡ known 5
unfolding eval binary certain marked known flag holds
sample-clamp = refl

-- "the result, the only target, which starts unknown": a body that assigns nothing.
pub sample-result : eval (λ v. known 7) (trees.call 0 4 (trees.argument (trees.variable 1) trees.no_more) trees.nothing) ≡ all_unknown 4
unfolding eval
sample-result = refl

-- It reads variables 1 and 2; its body's variable 0 is the first argument.
pub sample-reads : (reads clamp 0 ≡ false) × (reads clamp 1 ≡ true) × (reads clamp 2 ≡ true)
unfolding reads
sample-reads = (refl, refl, refl)

-- ---- calls on bytes

-- Widths of three variables, 1, 8 and 8; then functions: at place 3 clamp(a, limit), 8 bits: if (limit < a) f = limit; else f = a;
-- at place 22 of one parameter, 8 bits: if (a) f = clamp(a, clamp(a, 200)); f starts unknown, and no leg assigns where a is 0.
abbrev text : List ℕ
text =
    1 ∷ 8 ∷ 8
    ∷ 2 ∷ 8 ∷ 8 ∷ 8 ∷ 0x0E ∷ 0x31 ∷ 9 ∷ 0x02 ∷ 1 ∷ 0x02 ∷ 0 ∷ 0x03 ∷ 2 ∷ 0x02 ∷ 1 ∷ 0x03 ∷ 2 ∷ 0x02 ∷ 0
    ∷ 1 ∷ 8 ∷ 8 ∷ 0x06 ∷ 0x02 ∷ 0 ∷ 0x03 ∷ 1 ∷ 0x80 ∷ 0 ∷ 0x02 ∷ 0 ∷ 0x80 ∷ 0 ∷ 0x02 ∷ 0 ∷ 0x0C ∷ 8 ∷ 200 ∷ 0 ∷ 0 ∷ 0
    ∷ []

abbrev places : List ℕ
places = 3 ∷ 22 ∷ 0 ∷ 0 ∷ 0 ∷ 0 ∷ 0 ∷ 0 ∷ []

-- Variable 0 is x, variable 1 is 210, variable 2 is 0.
abbrev cells : List ℕ
cells = 4294967296 ∷ 210 ∷ 0 ∷ []

-- The calls stand behind: clamp(v1, v2) at 44, the second function of v1 at 50, of v2 at 54.
abbrev sheet : List ℕ
sheet = text ++ (0x80 ∷ 0 ∷ 0x02 ∷ 1 ∷ 0x02 ∷ 2 ∷ 0x80 ∷ 1 ∷ 0x02 ∷ 1 ∷ 0x80 ∷ 1 ∷ 0x02 ∷ 2 ∷ [])

unfoldable calling : Unit {0}
unfolding work_at node_at inner_node variable_node unary_node binary_node conditional_node nothing passed operands_of skip_node skip_at skip_form skip_body result_form turn_form if_form else_form form_at run_at arguments_at call_node calls_at definition_at cell_of number_in marks_in value_of cell_at word_of word binary certain marked known flag holds all_unknown ones binary_width
calling = tt

-- clamp(210, 0) = 0; nested, clamp(210, clamp(210, 200)) = 200; where no leg assigns the result is unknown.
pub sample-calls :
    (eval_in (record { widths = 0; callable = 2 }) 16 sheet places cells 44 ≡ record { value = known 0; width = 8; next = 50 })
    × (eval_in (record { widths = 0; callable = 2 }) 16 sheet places cells 50 ≡ record { value = known 200; width = 8; next = 54 })
    × (eval_in (record { widths = 0; callable = 2 }) 16 sheet places cells 54 ≡ record { value = all_unknown 8; width = 8; next = 58 })
unfolding calling
sample-calls = (refl, refl, refl)

-- A function that may not be called here is nothing.
pub sample-later : eval_in (record { widths = 0; callable = 1 }) 16 sheet places cells 50 ≡ nothing
unfolding calling
sample-later = refl
