-- The listing (document 01, "Samples from the stands"; document 02, [5]): what the listing program prints for a sheet.
use Rattle.std.specs.Prelude.{ℕ, ◌+◌, List, [], ◌∷◌, ◌++◌, length}
use Rattle.values.specs.Edges.{edge_number}
use Rattle.sheet.specs.declared.EdgeTerm.{EdgeTerm}
use Rattle.sheet.specs.Reading.{Res, ok, no}
use Rattle.sheet.specs.Expression.{Expr, variable, constant, unknown, unary, binary, conditional, call, Arguments, no_more, argument}
use Rattle.sheet.specs.Statement.{Stmt}
use Rattle.sheet.specs.Module.{Module, read}
use Rattle.pseudocode.specs.Translation.{Instr, wait!, set!, later!, go, ifnot, thread_code}
use Rattle.writing.specs.Ascii.{ascii, byte}
use Rattle.writing.specs.Numbers.{decimal}

infixr 60 ◌␣◌
-- A field, a space and the fields after it.
abbrev pub ◌␣◌ : List ℕ → List ℕ → List ℕ
◌␣◌ a b = a ++ (byte " " ∷ b)

-- ---- expressions: "Expressions stand operator first: `o6 v1 c8:5`, and `u8` for an 8-bit x."

unfoldable mutual
  pub show_expr : Expr → List ℕ
  show_expr (variable v) = byte "v" ∷ decimal v
  show_expr (constant w v) = byte "c" ∷ (decimal w ++ (byte ":" ∷ decimal v))
  show_expr (unknown w) = byte "u" ∷ decimal w
  show_expr (unary o w a) = byte "o" ∷ decimal o ␣ show_expr a
  show_expr (binary o w a b) = byte "o" ∷ decimal o ␣ show_expr a ␣ show_expr b
  show_expr (conditional c a b) = byte "o" ∷ decimal 10 ␣ show_expr c ␣ show_expr a ␣ show_expr b
  -- Of a call "the listing prints `f` with the number before" the arguments.
  show_expr (call n w ys b) = byte "f" ∷ (decimal n ++ show_all ys)

  -- Each behind a space.
  pub show_all : Arguments → List ℕ
  show_all no_more = []
  show_all (argument e ys) = byte " " ∷ (show_expr e ++ show_all ys)

-- ---- instructions

-- "edge and variable pairs", each number behind a space
unfoldable pub show_term : EdgeTerm → List ℕ
show_term t = [] ␣ decimal (edge_number t.edge) ␣ decimal t.variable

unfoldable pub show_terms : List EdgeTerm → List ℕ
show_terms [] = []
show_terms (t ∷ ts) = show_term t ++ show_terms ts

-- "The first line counts the threads."
unfoldable pub show_head : ℕ → List ℕ
show_head n = ascii "threads" ␣ decimal n ++ (byte "\n" ∷ [])

-- E is what stands for an expression, its tree or its place in the sheet, and expr its text.
module _ {E : Type 0} (expr : E → List ℕ) where
  -- "word, then edge and variable pairs, or target and expression, or goal. `set` is plain assignment;
  -- `ifnot` has goal, then expression."
  unfoldable pub show_instr : Instr E → List ℕ
  show_instr (wait! ts) = ascii "wait" ++ show_terms ts
  show_instr (set! t e) = ascii "set" ␣ decimal t ␣ expr e
  show_instr (later! t e) = ascii "later" ␣ decimal t ␣ expr e
  show_instr (go g) = ascii "go" ␣ decimal g
  show_instr (ifnot e g) = ascii "ifnot" ␣ decimal g ␣ expr e

  -- "Fields: thread, place, word, then ..": one line.
  unfoldable pub show_line : ℕ → ℕ → Instr E → List ℕ
  show_line thread place i = decimal thread ␣ decimal place ␣ show_instr i ++ (byte "\n" ∷ [])

  -- A thread's instructions from a place on.
  unfoldable pub show_code : ℕ → ℕ → List (Instr E) → List ℕ
  show_code thread place [] = []
  show_code thread place (i ∷ is) = show_line thread place i ++ show_code thread (place + 1) is

  -- The threads from a number on. Thread and place are counted from 0.
  unfoldable pub show_threads : ℕ → List (Stmt E) → List ℕ
  show_threads thread [] = []
  show_threads thread (a ∷ bs) = show_code thread 0 (thread_code a) ++ show_threads (thread + 1) bs

  unfoldable pub show_module : Module E → List ℕ
  show_module m = show_head (length m.threads) ++ show_threads 0 m.threads

-- ---- the program's output

unfoldable pub listing : Module Expr → List ℕ
listing m = show_module show_expr m

-- "A refusal prints `refused` and its number."
unfoldable pub refusal : ℕ → List ℕ
refusal n = ascii "refused" ␣ decimal n ++ (byte "\n" ∷ [])

unfoldable pub printed : Res (Module Expr) → List ℕ
printed (ok m) = listing m
printed (no n p) = refusal n

unfoldable pub output : List ℕ → List ℕ
output s = printed (read s)
