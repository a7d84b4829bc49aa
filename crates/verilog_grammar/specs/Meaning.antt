-- What a derivation means (document 02, request [1]): the sheet's expressions and statements, over a numbering of the names.
-- Operands' widths are 0 here: a sheet doesn't write them.
use Rattle.std.specs.Prelude.{List, [], ◌∷◌, ◌++◌, ℕ, ◌+◌, ◌%◌, ◌^◌, leb}
use Rattle.std.proofs.Math.Option.{Option, none as nothing, some as just}
use Rattle.values.specs.Values.{pick}
use Rattle.values.specs.declared.Edge.{Edge}
use Rattle.values.specs.declared.Edge.TheVariants.{Change, Posedge, Negedge}
use Rattle.sheet.specs.declared.EdgeTerm.{EdgeTerm}
use Rattle.sheet.specs.Expression.{Expr, variable, constant, unknown, unary, binary, conditional}
use Rattle.sheet.specs.Statement.{Stmt, empty, assign as assigns, later, sequence, if_then, if_else, while, forever, wait}
use Rattle.verilog_tokens.specs.Tokens.{Name}
use Rattle.verilog_grammar.specs.AnnexA.{Unary, negation, complement, Binary, plus, minus, equals, less, conjunction, disjunction, exclusive, Number, sized, sized_x, Expression, Primary, only, prefixed, joined, chosen, identified, numbered, bracketed, Event, changes, rises, falls, or_else, comma, Control, bare, among}
use Rattle.verilog_grammar.specs.AnnexA.{Statement, blocking, nonblocking, selects, whether, either, chain, endless, repeats, after, block, OrNull, some, null, Chain, last, last_else, leg, Statements, none, more, CaseItem, labelled, default, default_colon, CaseItems, last_item, item}
use Rattle.verilog_grammar.specs.AnnexA.{Listed, one, also, Range, no_range, down_to, NetAssignment, Item, input, reg, wire, assign, always, ModuleDeclaration}

-- ---- "a count or width past 01's range is written as 255"

unfoldable pub up_to : ℕ → ℕ → ℕ
up_to most n = pick (leb n most) n 255

-- ---- "A constant is cut to its width"; the sheet has four bytes for its value

unfoldable pub cut : ℕ → ℕ → ℕ
cut w v = v % 2 ^ pick (leb w 32) w 32

unfoldable pub number_expr : Number → Expr
number_expr (sized w v) = constant (up_to 32 w) (cut w v)
number_expr (sized_x w) = unknown (up_to 32 w)

-- ---- "1 ~, 2 !" and "3 &, 4 |, 5 ^, 6 +, 7 -, 8 ==, 9 <"

unfoldable pub unary_number : Unary → ℕ
unary_number complement = 1
unary_number negation = 2

unfoldable pub binary_number : Binary → ℕ
binary_number conjunction = 3
binary_number disjunction = 4
binary_number exclusive = 5
binary_number plus = 6
binary_number minus = 7
binary_number equals = 8
binary_number less = 9

-- ---- "A `begin` block nests to the right, an empty one or a bare `;` is 00h"

unfoldable pub nested : Stmt Expr → List (Stmt Expr) → Stmt Expr
nested a [] = a
nested a (b ∷ bs) = sequence a (nested b bs)

unfoldable pub block_of : List (Stmt Expr) → Stmt Expr
block_of [] = empty
block_of (a ∷ xs) = nested a xs

-- ---- case: "nested if-else on subject == label, the last an if without default"

pub data Arm : Type 0 where
  on : Expr → Stmt Expr → Arm
  otherwise : Stmt Expr → Arm

-- The default, wherever it stands.
unfoldable pub fallback : List Arm → Option (Stmt Expr)
fallback [] = nothing
fallback (on l s ∷ xs) = fallback xs
fallback (otherwise s ∷ xs) = just s

unfoldable pub test : Expr → Expr → Stmt Expr → Option (Stmt Expr) → Stmt Expr
test e l s nothing = if_then (binary 8 0 e l) s
test e l s (just t) = if_else (binary 8 0 e l) s t

unfoldable pub tests : Expr → List Arm → Option (Stmt Expr) → Option (Stmt Expr)
tests e [] d = d
tests e (on l s ∷ xs) d = just (test e l s (tests e xs d))
tests e (otherwise s ∷ xs) d = tests e xs d

-- A case has an item, so that there is always a statement.
unfoldable pub or_empty : Option (Stmt Expr) → Stmt Expr
or_empty nothing = empty
or_empty (just s) = s

unfoldable pub case_of : Expr → List Arm → Stmt Expr
case_of e xs = or_empty (tests e xs (fallback xs))

-- ---- a module's parts

pub data Kind : Type 0 where
  an_input a_register a_wire : Kind

pub record Driven : Type 0 where
  pub target : Name
  pub value : Expr

pub data Part : Type 0 where
  declares : Kind → ℕ → List Name → Part
  drives : List Driven → Part
  runs : Stmt Expr → Part

pub record Source : Type 0 where
  pub title : Name
  pub ports : List Name
  pub parts : List Part

-- `[n:0]` has n + 1 bits, no range is one.
unfoldable pub width_of : Range → ℕ
width_of no_range = 1
width_of (down_to a n b) = n + 1

unfoldable pub list_of : {T A : Type 0} → (T → A) → Listed T → List A
list_of f (one a) = f a ∷ []
list_of f (also a xs) = f a ∷ list_of f xs

abbrev pub same : Name → Name
same n = n

-- ---- the meanings, over the number of each name

module _ (index : List ℕ → ℕ) where
  unfoldable mutual
    pub expr_of : Expression → Expr
    expr_of (only p) = primary_of p
    expr_of (prefixed u p) = unary (unary_number u) 0 (primary_of p)
    expr_of (joined a o b) = binary (binary_number o) 0 (expr_of a) (expr_of b)
    expr_of (chosen c a b) = conditional (expr_of c) (expr_of a) (expr_of b)

    pub primary_of : Primary → Expr
    primary_of (identified n) = variable (index n.spelled)
    primary_of (numbered n) = number_expr n
    primary_of (bracketed e) = expr_of e

  unfoldable pub term_of : Edge → Name → EdgeTerm
  term_of e n = record { edge = e; variable = index n.spelled }

  unfoldable pub terms_of : Event → List EdgeTerm
  terms_of (changes n) = term_of Change n ∷ []
  terms_of (rises n) = term_of Posedge n ∷ []
  terms_of (falls n) = term_of Negedge n ∷ []
  terms_of (or_else a b) = terms_of a ++ terms_of b
  terms_of (comma a b) = terms_of a ++ terms_of b

  unfoldable pub control_of : Control → List EdgeTerm
  control_of (bare n) = term_of Change n ∷ []
  control_of (among e) = terms_of e

  unfoldable mutual
    pub stmt_of : Statement → Stmt Expr
    stmt_of (blocking n e) = assigns (index n.spelled) (expr_of e)
    stmt_of (nonblocking n e) = later (index n.spelled) (expr_of e)
    stmt_of (selects e xs) = case_of (expr_of e) (arms_of xs)
    stmt_of (whether e a) = if_then (expr_of e) (or_null_of a)
    stmt_of (either e a b) = if_else (expr_of e) (or_null_of a) (or_null_of b)
    stmt_of (chain c) = chain_of c
    stmt_of (endless a) = forever (stmt_of a)
    stmt_of (repeats e a) = while (expr_of e) (stmt_of a)
    -- "`@` and what follows are a sequence"
    stmt_of (after c a) = sequence (wait (control_of c)) (or_null_of a)
    stmt_of (block xs) = block_of (stmts_of xs)

    pub or_null_of : OrNull → Stmt Expr
    or_null_of (some a) = stmt_of a
    or_null_of null = empty

    pub chain_of : Chain → Stmt Expr
    chain_of (last e a) = if_then (expr_of e) (or_null_of a)
    chain_of (last_else e a b) = if_else (expr_of e) (or_null_of a) (or_null_of b)
    chain_of (leg e a c) = if_else (expr_of e) (or_null_of a) (chain_of c)

    pub stmts_of : Statements → List (Stmt Expr)
    stmts_of none = []
    stmts_of (more a xs) = stmt_of a ∷ stmts_of xs

    pub arm_of : CaseItem → Arm
    arm_of (labelled w v a) = on (number_expr (sized w v)) (or_null_of a)
    arm_of (default a) = otherwise (or_null_of a)
    arm_of (default_colon a) = otherwise (or_null_of a)

    pub arms_of : CaseItems → List Arm
    arms_of (last_item i) = arm_of i ∷ []
    arms_of (item i xs) = arm_of i ∷ arms_of xs

  unfoldable pub driven_of : NetAssignment → Driven
  driven_of a = record { target = a.target; value = expr_of a.value }

  unfoldable pub part_of : Item → Part
  part_of (input r ns) = declares an_input (width_of r) (list_of same ns)
  part_of (reg r ns) = declares a_register (width_of r) (list_of same ns)
  part_of (wire r ns) = declares a_wire (width_of r) (list_of same ns)
  part_of (assign xs) = drives (list_of driven_of xs)
  part_of (always a) = runs (stmt_of a)

  unfoldable pub parts_of : List Item → List Part
  parts_of [] = []
  parts_of (i ∷ is) = part_of i ∷ parts_of is

  unfoldable pub meaning : ModuleDeclaration → Source
  meaning m = record { title = m.title; ports = list_of same m.ports; parts = parts_of m.items }
