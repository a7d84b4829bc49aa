-- Samples, computed: expressions grouped by table 5-4, and statements.
-- Assumes nothing.
use mathlib.Core.Path.{◌≡◌, refl}
use mathlib.Core.List.{List, [], ◌∷◌}
use Prim.Native.Nat.{ℕ}
use Prim.Native.String.{String}
use Rattle.values.specs.declared.Edge.TheVariants.{Change, Posedge}
use Rattle.sheet.specs.Expression.{Expr, variable, constant, binary}
use Rattle.sheet.specs.Statement.{Stmt, empty, assign as assigns, later, sequence, if_then, if_else, wait}
use Rattle.writing.specs.Ascii.{ascii}
use Rattle.verilog_tokens.specs.Tokens.{Token, tokens}
use Rattle.verilog_tokens.proofs.Samples.{seen}
use Rattle.verilog_grammar.specs.AnnexA.{complement, plus, minus, equals, less, conjunction, disjunction, exclusive, unary_sign, binary_sign, Expression, only, prefixed, joined, chosen, identified}
use Rattle.verilog_grammar.specs.Conditions.{precedence}
use Rattle.verilog_grammar.specs.Meaning.{up_to, cut, number_expr, nested, block_of, fallback, test, tests, or_empty, case_of, expr_of, primary_of, term_of, unary_number, binary_number}
use Rattle.verilog_grammar.specs.Reader.{ok, no, is_mark, starts, if_next, expect, is_name, ident, size, valued, known_value, refuse, identifier, constant as constant_primary, brackets, atom, primary, prefix, plain, operand, operator, join, turn, climb, choice, arms, start, reader, expression, condition, edge, change, event, further_events, more_events, events, event_list, event_name, control, blocking_to, nonblocking_to, assignment, null_statement, or_null, else_part, or_else, conditional, while_loop, forever_loop, timing, block_end, block_more, statements, block, colon, default_item, labelled_item, items_end, items_more, items_behind, default_first, label_first, case_items, case_statement, statement_by, statement}

-- A text's tokens, with every definition open that reads them.
unfoldable pub sample : String → List Token
unfolding seen precedence unary_sign binary_sign is_mark starts if_next expect is_name ident size valued known_value refuse identifier
    constant_primary brackets atom primary prefix plain operand operator join turn climb choice arms start reader expression condition
    edge change event further_events more_events events event_list event_name control blocking_to nonblocking_to assignment null_statement
    or_null else_part or_else conditional while_loop forever_loop timing block_end block_more statements block colon default_item labelled_item
    items_end items_more items_behind default_first label_first case_items case_statement statement_by statement up_to cut number_expr nested
    block_of fallback test tests or_empty case_of expr_of primary_of term_of unary_number binary_number
sample s = tokens (ascii s)

-- The expression that a text is read as, to its end.
abbrev pub Means : String → Expression → Type 0
Means s e = expression (tokens (ascii s)) ≡ ok e []

abbrev pub at : ℕ → String → Expression
at p s = only (identified (record { place = p; spelled = ascii s }))

-- ---- each operator of table 5-4 before the next looser one, on either side

pub table-5-4 : Means "a|b^c" (joined (at 0 "a") disjunction (joined (at 2 "b") exclusive (at 4 "c")))
    × Means "a^b&c" (joined (at 0 "a") exclusive (joined (at 2 "b") conjunction (at 4 "c")))
    × Means "a&b==c" (joined (at 0 "a") conjunction (joined (at 2 "b") equals (at 5 "c")))
    × Means "a==b<c" (joined (at 0 "a") equals (joined (at 3 "b") less (at 5 "c")))
    × Means "a<b+c" (joined (at 0 "a") less (joined (at 2 "b") plus (at 4 "c")))
    × Means "a+b<c" (joined (joined (at 0 "a") plus (at 2 "b")) less (at 4 "c"))
    × Means "a?b:c|d" (chosen (at 0 "a") (at 2 "b") (joined (at 4 "c") disjunction (at 6 "d")))
unfolding sample
table-5-4 = (refl, refl, refl, refl, refl, refl, refl)

-- ---- to the left, and ?: to the right

pub association : Means "a-b+c" (joined (joined (at 0 "a") minus (at 2 "b")) plus (at 4 "c"))
    × Means "a==b==c" (joined (joined (at 0 "a") equals (at 3 "b")) equals (at 6 "c"))
    × Means "a?b:c?d:e" (chosen (at 0 "a") (at 2 "b") (chosen (at 4 "c") (at 6 "d") (at 8 "e")))
unfolding sample
association = (refl, refl, refl)

-- ---- a unary operator stands before a primary: `~~a` is refused with both tokens' rest still to come

pub unary-operators : Means "a^ ~b"
    (joined (at 0 "a") exclusive (prefixed complement (identified (record { place = 4; spelled = ascii "b" }))))
    × (expression (tokens (ascii "~~a")) ≡ no 2)
unfolding sample
unary-operators = (refl, refl)

-- ---- statements; a name's number is its first byte here

unfoldable pub first_byte : List ℕ → ℕ
first_byte [] = 0
first_byte (b ∷ s) = b

abbrev pub Runs : String → Stmt Expr → Type 0
Runs s b = statement first_byte 40 (tokens (ascii s)) ≡ ok b []

-- The `else` is the nearer `if`'s; `@` and what follows are a sequence, a bare `;` is empty; a block nests to the right.
pub nearest : Runs "if(a)if(b)c=a;else c=b;"
    (if_then (variable 97) (if_else (variable 98) (assigns 99 (variable 97)) (assigns 99 (variable 98))))
    × Runs "@(posedge a or b);"
    (sequence (wait (record { edge = Posedge; variable = 97 } ∷ record { edge = Change; variable = 98 } ∷ [])) empty)
    × Runs "begin a<=b;b<=c;c<=a;end" (sequence (later 97 (variable 98)) (sequence (later 98 (variable 99)) (later 99 (variable 97))))
    × Runs "begin end" empty
unfolding sample first_byte
nearest = (refl, refl, refl, refl)

-- A case becomes nested if-else, its default last wherever it stands; a label is cut to its width.
pub cases : Runs "case(a)default:b=a;1'd3:b=c;endcase"
    (if_else (binary 8 0 (variable 97) (constant 1 1)) (assigns 98 (variable 99)) (assigns 98 (variable 97)))
    × Runs "case(a)1'd0:;endcase" (if_then (binary 8 0 (variable 97) (constant 1 0)) empty)
    × Runs "case(a)default;endcase" empty
unfolding sample first_byte
cases = (refl, refl, refl)
