-- Translations of source document 003, section 2.2, in document 01's forms, and document 01's sample on the size of an if-else.
use mathlib.Core.Path.{◌≡◌, refl}
use Prim.Native.Nat.{ℕ}
use mathlib.Core.List.{List, [], ◌∷◌}
use lib.ListN.{length}
use Rattle.values.specs.declared.Edge.TheVariants.{Change, Posedge}
use Rattle.sheet.specs.declared.EdgeTerm.{EdgeTerm}
use Rattle.sheet.specs.Expression.{Expr, variable, constant, binary}
use Rattle.sheet.specs.Statement.{Stmt, assign, later, sequence, if_else, forever, wait, size}
use Rattle.pseudocode.specs.Translation.{wait!, set!, later!, go, ifnot, translate, thread_code}

-- @(posedge clk), and @(b or c).
abbrev posedge : ℕ → List EdgeTerm
posedge clk = record { edge = Posedge; variable = clk } ∷ []

abbrev either : ℕ → ℕ → List EdgeTerm
either b c = record { edge = Change; variable = b } ∷ record { edge = Change; variable = c } ∷ []

-- Operators 6 + and 8 == on 8-bit operands.
abbrev plus : Expr → Expr → Expr
plus x y = binary 6 8 x y

abbrev equals : Expr → Expr → Expr
equals x y = binary 8 8 x y

-- ---- 2.2.1 to 2.2.3: if-else, with and without waits

module _ (e : Expr) (a b clk : ℕ) where
  abbrev A : Expr
  A = variable a

  abbrev B : Expr
  B = variable b

  pub sample-2-2-1 : translate (if_else e (sequence (later a B) (later b A)) (sequence (assign a B) (assign b A))) 0
      ≡ ifnot e 4 ∷ later! a B ∷ later! b A ∷ go 6 ∷ set! a B ∷ set! b A ∷ []
  unfolding translate size
  sample-2-2-1 = refl

  pub sample-2-2-2 : translate
      (if_else e
      (sequence (later a B) (sequence (wait (posedge clk)) (later b A)))
      (sequence (assign a B) (assign b A)))
      0
      ≡ ifnot e 5 ∷ later! a B ∷ wait! (posedge clk) ∷ later! b A ∷ go 7 ∷ set! a B ∷ set! b A ∷ []
  unfolding translate size
  sample-2-2-2 = refl

  pub sample-2-2-3 : translate
      (if_else e
      (sequence (later a B) (sequence (wait (posedge clk)) (later b A)))
      (sequence (assign a B) (sequence (wait (posedge clk)) (assign b A))))
      0
      ≡ ifnot e 5 ∷ later! a B ∷ wait! (posedge clk) ∷ later! b A ∷ go 8 ∷ set! a B ∷ wait! (posedge clk) ∷ set! b A ∷ []
  unfolding translate size
  sample-2-2-3 = refl

-- ---- 2.2.5: forever @(b or c) a = b + c

pub sample-2-2-5 : (a b c : ℕ) → translate (forever (sequence (wait (either b c)) (assign a (plus (variable b) (variable c))))) 0
    ≡ wait! (either b c) ∷ set! a (plus (variable b) (variable c)) ∷ go 0 ∷ []
unfolding translate size
sample-2-2-5 a b c = refl

-- ---- 2.2.6 and 2.2.7: the total of three values

module _ (clk input total state : ℕ) where
  -- @(posedge clk) total = e
  abbrev clocked : Expr → Stmt Expr
  clocked e = sequence (wait (posedge clk)) (assign total e)

  abbrev added : Expr
  added = plus (variable total) (variable input)

  pub sample-2-2-6 : translate (forever (sequence (clocked (variable input)) (sequence (clocked added) (clocked added)))) 0
      ≡ wait! (posedge clk) ∷ set! total (variable input) ∷ wait! (posedge clk) ∷ set! total added
      ∷ wait! (posedge clk) ∷ set! total added ∷ go 0 ∷ []
  unfolding translate size
  sample-2-2-6 = refl

  abbrev state-is : ℕ → Expr
  state-is n = equals (variable state) (constant 8 n)

  -- total = e; state = n
  abbrev step : Expr → ℕ → Stmt Expr
  step e n = sequence (assign total e) (assign state (constant 8 n))

  -- The case statement is a nest of if-else with ==.
  pub sample-2-2-7 : thread_code
      (sequence (wait (posedge clk))
      (if_else (state-is 0) (step (variable input) 1) (if_else (state-is 1) (step added 2) (step added 0))))
      ≡ wait! (posedge clk) ∷ ifnot (state-is 0) 5 ∷ set! total (variable input) ∷ set! state (constant 8 1) ∷ go 11
      ∷ ifnot (state-is 1) 9 ∷ set! total added ∷ set! state (constant 8 2) ∷ go 11
      ∷ set! total added ∷ set! state (constant 8 0) ∷ go 0 ∷ []
  unfolding thread_code translate size
  sample-2-2-7 = refl

-- ---- document 01: "If-else of two assignments: size 4."

pub sample-size : (e x y : Expr) (a b : ℕ)
    → (size (if_else e (assign a x) (assign b y)) ≡ 4) × (length (translate (if_else e (assign a x) (assign b y)) 0) ≡ 4)
unfolding translate size
sample-size e x y a b = (refl, refl)
