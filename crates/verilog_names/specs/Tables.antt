-- What the tables of a text hold, once its module is read: kinds, ids and places of its tokens; roles and widths as its parts have
-- them. Each token of a role stands for one of the parts' names, targets or threads, in their order.
use Rattle.std.specs.Prelude.{◌≡◌, List, [], ◌∷◌, map, ℕ, ◌+◌, ◌<◌, length, get_or, take, drop}
use Rattle.sheet.specs.Expression.{Expr}
use Rattle.sheet.specs.Statement.{Stmt}
use Rattle.verilog_tokens.specs.Tokens.{Token, name, Name}
use Rattle.verilog_tokens.specs.Table.{kind_of, number_in, id_of}
use Rattle.verilog_grammar.specs.AnnexA.{Expression}
use Rattle.verilog_grammar.specs.Meaning.{up_to, an_input, a_register, a_wire, Driven, Part, expr_of}
use Rattle.verilog_grammar.specs.Reader.{ok, expression, statement}
use Rattle.verilog_source.specs.Names.{Variable, variables, declared, driven, threads}
use Rattle.verilog_names.specs.Chosen.{chosen, has_role, is_declared}

-- Two lists, element by element.
pub data Along {A B : Type 0} (R : A → B → Type 0) : List A → List B → Type 0 where
  none : Along R [] []
  next : {a : A} {b : B} {xs : List A} {ys : List B} → R a b → Along R xs ys → Along R (a ∷ xs) (b ∷ ys)

-- ---- what a token stands for

-- A name.
pub record Stands (ts : List Token) (t : ℕ) (n : Name) : Type 0 where
  pub behind : List Token
  pub stands : drop t ts ≡ name n ∷ behind

-- A variable where it is declared, with its width.
pub record Declares (ts : List Token) (widths : List ℕ) (t : ℕ) (v : Variable) : Type 0 where
  pub named : Stands ts t v.named
  pub width : get_or widths t 0 ≡ up_to 32 v.width

-- The target of an `assign`, whose expression is read two tokens behind.
pub record Drives (index : List ℕ → ℕ) (ts : List Token) (t : ℕ) (d : Driven) : Type 0 where
  pub target : Stands ts t d.target
  pub tree : Expression
  pub rest : List Token
  pub reads : expression (drop (t + 2) ts) ≡ ok tree rest
  pub value : d.value ≡ expr_of index tree

-- The word `always`, whose statement is read one token behind.
pub record Runs (index : List ℕ → ℕ) (ts : List Token) (t : ℕ) (s : Stmt Expr) : Type 0 where
  pub rest : List Token
  pub reads : statement index (length (drop (t + 1) ts)) (drop (t + 1) ts) ≡ ok s rest

-- ---- tokens ts, whose parts are ps over the numbers `index`

-- The three tables of the tokens themselves.
pub record Scanned (ts : List Token) (kinds ids places : List ℕ) : Type 0 where
  pub kinded : take (length ts) kinds ≡ map kind_of ts
  pub numbered : take (length ts) ids ≡ map (number_in (id_of ts)) ts
  pub placed : (t : ℕ) (n : Name) → Stands ts t n → get_or places t 0 ≡ n.place
  pub below : (t : ℕ) (n : Name) → Stands ts t n → n.place < 65536

-- The two that reading the module leaves.
pub record Noted (index : List ℕ → ℕ) (ts : List Token) (ps : List Part) (roles widths : List ℕ) : Type 0 where
  pub inputs : Along (Declares ts widths) (chosen (has_role roles 1) (length ts) 0) (variables an_input ps)
  pub registers : Along (Declares ts widths) (chosen (has_role roles 2) (length ts) 0) (variables a_register ps)
  pub wires : Along (Declares ts widths) (chosen (has_role roles 3) (length ts) 0) (variables a_wire ps)
  pub names : Along (Stands ts) (chosen (is_declared roles) (length ts) 0) (declared ps)
  pub drives : Along (Drives index ts) (chosen (has_role roles 4) (length ts) 0) (driven ps)
  pub runs : Along (Runs index ts) (chosen (has_role roles 5) (length ts) 0) (threads ps)
