-- The converse of reading (document 01, "The sheet"): the bytes of a module.
-- "Every expression and statement opens with a bit map, then only the fields whose bit stands, lowest first."
use Rattle.std.specs.Prelude.{ℕ, ◌/◌, ◌%◌, ◌<◌, List, [], ◌∷◌, ◌++◌, length, get_or}
use Rattle.values.specs.Edges.{edge_number}
use Rattle.sheet.specs.declared.EdgeTerm.{EdgeTerm}
use Rattle.sheet.specs.Expression.{Expr, variable, constant, unknown, unary, binary, conditional, call, Arguments, no_more, argument}
use Rattle.sheet.specs.Statement.{Stmt, empty, assign, later, sequence, if_then, if_else, while, forever, wait}
use Rattle.sheet.specs.Module.{Module}

-- A sheet's elements are bytes; past its end `get_or` gives 0.
unfoldable pub Bytes : List ℕ → Type 0
Bytes s = (i : ℕ) → get_or s i 0 < 256

-- ---- numbers of four bytes: "Multi-byte numbers are low byte first."

unfoldable pub encode_word : ℕ → List ℕ
encode_word n = n % 256 ∷ n / 256 % 256 ∷ n / 65536 % 256 ∷ n / 16777216 % 256 ∷ []

-- ---- expressions

-- "Expression bits: 0 operator byte; 1 variable byte; 2 constant's width; 3 constant's value (4 bytes);
-- 4, 5, 6 operands." An operator's width isn't written: it is its operands'.
unfoldable mutual
  pub encode_expr : Expr → List ℕ
  encode_expr (variable v) = 0x02 ∷ v ∷ []
  encode_expr (constant w v) = 0x0C ∷ w ∷ encode_word v
  encode_expr (unknown w) = 0x04 ∷ w ∷ []
  encode_expr (unary o w a) = 0x11 ∷ o ∷ encode_expr a
  encode_expr (binary o w a b) = 0x31 ∷ o ∷ (encode_expr a ++ encode_expr b)
  encode_expr (conditional c a b) = 0x71 ∷ 10 ∷ (encode_expr c ++ encode_expr a ++ encode_expr b)
  -- Document 02, [5]: "expression map 80h holds a function number [..], then the arguments".
  encode_expr (call n w ys b) = 0x80 ∷ n ∷ encode_all ys

  pub encode_all : Arguments → List ℕ
  encode_all no_more = []
  encode_all (argument e ys) = encode_expr e ++ encode_all ys

-- ---- statements

-- "so many pairs of edge (0 any change, 1 posedge, 2 negedge) and variable"
unfoldable pub encode_terms : List EdgeTerm → List ℕ
encode_terms [] = []
encode_terms (t ∷ ts) = edge_number t.edge ∷ t.variable ∷ encode_terms ts

-- "Statement bits: 0 target byte; 1 expression; 2 and 3 statements; 4 a wait, being a count (1 to 8) and so many
-- pairs of edge (0 any change, 1 posedge, 2 negedge) and variable; 5 (later) and 6 (loop) have no field."
unfoldable pub encode_stmt : Stmt Expr → List ℕ
encode_stmt empty = 0x00 ∷ []
encode_stmt (assign t e) = 0x03 ∷ t ∷ encode_expr e
encode_stmt (later t e) = 0x23 ∷ t ∷ encode_expr e
encode_stmt (sequence a b) = 0x0C ∷ (encode_stmt a ++ encode_stmt b)
encode_stmt (if_then e a) = 0x06 ∷ (encode_expr e ++ encode_stmt a)
encode_stmt (if_else e a b) = 0x0E ∷ (encode_expr e ++ encode_stmt a ++ encode_stmt b)
encode_stmt (while e a) = 0x46 ∷ (encode_expr e ++ encode_stmt a)
encode_stmt (forever a) = 0x44 ∷ encode_stmt a
encode_stmt (wait ts) = 0x10 ∷ length ts ∷ encode_terms ts

-- ---- the sheet

-- "Then an expression for each wire,"
unfoldable pub encode_wires : List Expr → List ℕ
encode_wires [] = []
encode_wires (e ∷ es) = encode_expr e ++ encode_wires es

-- "a statement for each thread,"
unfoldable pub encode_threads : List (Stmt Expr) → List ℕ
encode_threads [] = []
encode_threads (b ∷ bs) = encode_stmt b ++ encode_threads bs

-- "Four bytes: inputs (1 to 16), registers (1 to 32), wires (0 to 32), threads (1 to 8). Then one width byte for each
-- variable (1 to 32): inputs, registers, wires, numbered from 0 in that order. [..] Then an expression for each wire, a
-- statement for each thread, and nothing more."
unfoldable pub encode : Module Expr → List ℕ
encode m =
    m.scope.inputs ∷ m.scope.registers ∷ length m.wires ∷ length m.threads ∷
    (m.scope.widths ++ encode_wires m.wires ++ encode_threads m.threads)
