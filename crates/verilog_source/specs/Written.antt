-- The bytes of a text's sheet (document 02, request [1]; document 01, "The sheet").
use Rattle.std.specs.Prelude.{List, [], ◌∷◌, ◌++◌, ℕ, length}
use Rattle.values.specs.Values.{pick}
use Rattle.sheet.specs.Expression.{Expr, unknown}
use Rattle.sheet.specs.Statement.{Stmt, empty, assign, later, sequence, if_then, if_else, while, forever, wait}
use Rattle.encoding.specs.Encoding.{encode_expr, encode_terms}
use Rattle.naming.specs.Naming.{same_text}
use Rattle.verilog_grammar.specs.Meaning.{up_to, an_input, a_register, a_wire, Driven, Part}
use Rattle.verilog_source.specs.Names.{Variable, variables, in_order, driven, threads}

-- A statement as it is encoded, but "a count [..] past 01's range is written as 255".
unfoldable pub written_stmt : Stmt Expr → List ℕ
written_stmt empty = 0x00 ∷ []
written_stmt (assign t e) = 0x03 ∷ t ∷ encode_expr e
written_stmt (later t e) = 0x23 ∷ t ∷ encode_expr e
written_stmt (sequence a b) = 0x0C ∷ (written_stmt a ++ written_stmt b)
written_stmt (if_then e a) = 0x06 ∷ (encode_expr e ++ written_stmt a)
written_stmt (if_else e a b) = 0x0E ∷ (encode_expr e ++ written_stmt a ++ written_stmt b)
written_stmt (while e a) = 0x46 ∷ (encode_expr e ++ written_stmt a)
written_stmt (forever a) = 0x44 ∷ written_stmt a
written_stmt (wait ts) = 0x10 ∷ up_to 8 (length ts) ∷ encode_terms ts

unfoldable pub written_threads : List (Stmt Expr) → List ℕ
written_threads [] = []
written_threads (b ∷ bs) = written_stmt b ++ written_threads bs

unfoldable pub written_widths : List Variable → List ℕ
written_widths [] = []
written_widths (v ∷ vs) = up_to 32 v.width ∷ written_widths vs

-- A wire's expression is that of its `assign`.
unfoldable pub value_for : List Driven → List ℕ → Expr
value_for [] s = unknown 0
value_for (d ∷ ds) s = pick (same_text d.target.spelled s) d.value (value_for ds s)

unfoldable pub written_wires : List Driven → List Variable → List ℕ
written_wires ds [] = []
written_wires ds (v ∷ vs) = encode_expr (value_for ds v.named.spelled) ++ written_wires ds vs

-- "a count or width past 01's range is written as 255"
unfoldable pub written : List Part → List ℕ
written ps =
    up_to 16 (length (variables an_input ps)) ∷ up_to 32 (length (variables a_register ps)) ∷ up_to 32 (length (variables a_wire ps)) ∷
    up_to 8 (length (threads ps)) ∷
    (written_widths (in_order ps) ++ written_wires (driven ps) (variables a_wire ps) ++ written_threads (threads ps))
