-- The derivation of the printed module (verilog/specs/Verilog.antt) by Annex A (verilog_grammar/specs/AnnexA.antt).
-- A name's token holds its place in the text, so a tree is built over the places of its names.
use Rattle.std.specs.Prelude.{true, false, List, [], ◌∷◌, ℕ, zero, suc, ◌+◌, ◌-◌, ltb}
use Rattle.values.specs.Values.{pick, ◌is◌then◌else◌}
use Rattle.values.specs.declared.Edge.{Edge}
use Rattle.values.specs.declared.Edge.TheVariants.{Change, Posedge, Negedge}
use Rattle.sheet.specs.declared.EdgeTerm.{EdgeTerm}
use Rattle.sheet.specs.Expression.{Expr, variable, constant, unknown, unary, binary, conditional, call}
use Rattle.sheet.specs.Statement.{Stmt, empty, assign as assigns, later, sequence, if_then, if_else, while, forever, wait}
use Rattle.sheet.specs.Module.{Module}
use Rattle.writing.specs.Ascii.{ascii}
use Rattle.verilog_tokens.specs.Tokens.{Name}
use Rattle.verilog_grammar.specs.AnnexA.{Unary, negation, complement, Binary, plus, minus, equals, less, conjunction, disjunction, exclusive, sized, sized_x, Expression, Primary, only, prefixed, joined, chosen, identified, numbered, bracketed, Event, changes, rises, falls, or_else, among}
use Rattle.verilog_grammar.specs.AnnexA.{Statement, blocking, nonblocking, whether, either, endless, repeats, after, block, some, null, Statements, none, more}
use Rattle.verilog_grammar.specs.AnnexA.{Listed, one, also, Range, no_range, down_to, Item, input, reg, wire, assign, always, ModuleDeclaration}

-- ---- places

-- Something for each of a list.
abbrev pub Each : {A : Type 0} → (A → Type 0) → List A → Type 0
Each P [] = Unit {0}
Each P (x ∷ xs) = P x × Each P xs

-- A place for each name of an expression.
abbrev pub InExpr : Expr → Type 0
InExpr (variable v) = ℕ
InExpr (constant w v) = Unit {0}
InExpr (unknown w) = Unit {0}
InExpr (unary o w a) = InExpr a
InExpr (binary o w a b) = InExpr a × InExpr b
InExpr (conditional c a b) = InExpr c × InExpr a × InExpr b
-- The grammar derives no call.
InExpr (call n w ys b) = ⊥

-- One for each term of a wait, and for each variable that is declared.
abbrev pub InTerm : EdgeTerm → Type 0
InTerm t = ℕ

abbrev pub InWidth : ℕ → Type 0
InWidth w = ℕ

abbrev pub InStmt : Stmt Expr → Type 0
InStmt empty = Unit {0}
InStmt (assigns t e) = ℕ × InExpr e
InStmt (later t e) = ℕ × InExpr e
InStmt (sequence a b) = InStmt a × InStmt b
InStmt (if_then e a) = InExpr e × InStmt a
InStmt (if_else e a b) = InExpr e × InStmt a × InStmt b
InStmt (while e a) = InExpr e × InStmt a
InStmt (forever a) = InStmt a
InStmt (wait ts) = Each InTerm ts

-- The wire's target and its expression.
abbrev pub InWire : Expr → Type 0
InWire e = ℕ × InExpr e

abbrev pub InPorts : ℕ → Type 0
InPorts zero = Unit {0}
InPorts (suc n) = ℕ × InPorts n

pub record InModule (m : Module Expr) : Type 0 where
  pub title : ℕ
  pub ports : InPorts m.scope.inputs
  pub widths : Each InWidth m.scope.widths
  pub wires : Each InWire m.wires
  pub threads : Each InStmt m.threads

-- ---- "1 ~, 2 !" and "3 &, 4 |, 5 ^, 6 +, 7 -, 8 ==, 9 <"

unfoldable pub unary_of : ℕ → Unary
unary_of o = o is 1 then complement else negation

unfoldable pub binary_of : ℕ → Binary
binary_of o =
    o is 3 then conjunction else
    o is 4 then disjunction else
    o is 5 then exclusive else
    o is 6 then plus else
    o is 7 then minus else
    o is 8 then equals else
    less

-- `[n:0]` of a variable that is wider than one bit.
unfoldable pub range_of : ℕ → Range
range_of w = w is 1 then no_range else down_to true (w - 1) false

-- called gives a variable's name.
module _ (called : ℕ → List ℕ) where
  -- A variable's name at a place.
  abbrev pub name_at : ℕ → ℕ → Name
  name_at p v = record { place = p; spelled = called v }

  -- ---- expressions: every operator with its operands stands in parentheses

  unfoldable pub primary_tree : (e : Expr) → InExpr e → Primary
  primary_tree (variable v) d = identified (name_at d v)
  primary_tree (constant w v) d = numbered (sized w v)
  primary_tree (unknown w) d = numbered (sized_x w)
  primary_tree (unary o w a) d = bracketed (prefixed (unary_of o) (primary_tree a d))
  primary_tree (binary o w a b) d = bracketed (joined (only (primary_tree a d.0)) (binary_of o) (only (primary_tree b d.1)))
  primary_tree (conditional c a b) d =
      bracketed (chosen (only (primary_tree c d.0)) (only (primary_tree a d.1)) (only (primary_tree b d.2)))
  primary_tree (call n w ys b) d = absurd d

  abbrev pub expr_tree : (e : Expr) → InExpr e → Expression
  expr_tree e d = only (primary_tree e d)

  -- ---- waits: a wait has a term

  unfoldable pub term_tree : Edge → Name → Event
  term_tree Change n = changes n
  term_tree Posedge n = rises n
  term_tree Negedge n = falls n

  unfoldable pub terms_tree : (ts : List EdgeTerm) → Each InTerm ts → Event
  terms_tree [] d = changes (name_at 0 0)
  terms_tree (t ∷ []) d = term_tree t.edge (name_at d.0 t.variable)
  terms_tree (t ∷ u ∷ ts) d = or_else (term_tree t.edge (name_at d.0 t.variable)) (terms_tree (u ∷ ts) d.1)

  -- ---- statements

  -- What stands in a block for a sequence, by its first part a: x is a as one statement, ys what the second part puts into a block.
  -- What follows a wait stands in a block behind it.
  unfoldable pub sequence_tree : (a : Stmt Expr) → InStmt a → Statement → Statements → Statements
  sequence_tree empty d x ys = more x ys
  sequence_tree (assigns t e) d x ys = more x ys
  sequence_tree (later t e) d x ys = more x ys
  sequence_tree (sequence a b) d x ys = more x ys
  sequence_tree (if_then e a) d x ys = more x ys
  sequence_tree (if_else e a b) d x ys = more x ys
  sequence_tree (while e a) d x ys = more x ys
  sequence_tree (forever a) d x ys = more x ys
  sequence_tree (wait ts) d x ys = more (after (among (terms_tree ts d)) (some (block ys))) none

  unfoldable mutual
    -- As one statement.
    pub alone : (a : Stmt Expr) → InStmt a → Statement
    alone empty d = block none
    alone (assigns t e) d = blocking (name_at d.0 t) (expr_tree e d.1)
    alone (later t e) d = nonblocking (name_at d.0 t) (expr_tree e d.1)
    alone (sequence a b) d = block (sequence_tree a d.0 (alone a d.0) (within b d.1))
    alone (if_then e a) d = whether (expr_tree e d.0) (some (block (within a d.1)))
    alone (if_else e a b) d = either (expr_tree e d.0) (some (block (within a d.1))) (some (block (within b d.2)))
    alone (while e a) d = repeats (expr_tree e d.0) (block (within a d.1))
    alone (forever a) d = endless (block (within a d))
    alone (wait ts) d = after (among (terms_tree ts d)) null

    -- As the statements of a block.
    pub within : (a : Stmt Expr) → InStmt a → Statements
    within empty d = more (block none) none
    within (assigns t e) d = more (blocking (name_at d.0 t) (expr_tree e d.1)) none
    within (later t e) d = more (nonblocking (name_at d.0 t) (expr_tree e d.1)) none
    within (sequence a b) d = sequence_tree a d.0 (alone a d.0) (within b d.1)
    within (if_then e a) d = more (whether (expr_tree e d.0) (some (block (within a d.1)))) none
    within (if_else e a b) d =
        more (either (expr_tree e d.0) (some (block (within a d.1))) (some (block (within b d.2)))) none
    within (while e a) d = more (repeats (expr_tree e d.0) (block (within a d.1))) none
    within (forever a) d = more (endless (block (within a d))) none
    within (wait ts) d = more (after (among (terms_tree ts d)) null) none

  -- ---- a thread's statement: a block, or, where it opens with a wait, that wait with a block behind it

  -- By the first part a of a sequence: ys is what the second part puts into a block, x the block of both.
  unfoldable pub opened_tree : (a : Stmt Expr) → InStmt a → Statements → Statement → Statement
  opened_tree empty d ys x = x
  opened_tree (assigns t e) d ys x = x
  opened_tree (later t e) d ys x = x
  opened_tree (sequence a b) d ys x = x
  opened_tree (if_then e a) d ys x = x
  opened_tree (if_else e a b) d ys x = x
  opened_tree (while e a) d ys x = x
  opened_tree (forever a) d ys x = x
  opened_tree (wait ts) d ys x = after (among (terms_tree ts d)) (some (block ys))

  unfoldable pub thread_tree : (a : Stmt Expr) → InStmt a → Statement
  thread_tree empty d = block (within empty d)
  thread_tree (assigns t e) d = block (within (assigns t e) d)
  thread_tree (later t e) d = block (within (later t e) d)
  thread_tree (sequence a b) d = opened_tree a d.0 (within b d.1) (block (within (sequence a b) d))
  thread_tree (if_then e a) d = block (within (if_then e a) d)
  thread_tree (if_else e a b) d = block (within (if_else e a b) d)
  thread_tree (while e a) d = block (within (while e a) d)
  thread_tree (forever a) d = block (within (forever a) d)
  thread_tree (wait ts) d = block (within (wait ts) d)

  -- ---- the module's parts

  -- The names of n variables, from v on; a module has an input.
  unfoldable pub ports_tree : (n v : ℕ) → InPorts n → Listed Name
  ports_tree zero v d = one (name_at 0 v)
  ports_tree (suc zero) v d = one (name_at d.0 v)
  ports_tree (suc (suc n)) v d = also (name_at d.0 v) (ports_tree (suc n) (v + 1) d.1)

  -- What variable v is, with so many inputs and registers.
  unfoldable pub declaration_tree : ℕ → ℕ → ℕ → ℕ → Name → Item
  declaration_tree i r v w n =
      pick (ltb v i) (input (range_of w) (one n))
      (pick (ltb v (i + r)) (reg (range_of w) (one n))
      (wire (range_of w) (one n)))

  -- The threads, the wires from v on and the variables from v on, in front of other items.
  unfoldable pub thread_trees : (bs : List (Stmt Expr)) → Each InStmt bs → List Item
  thread_trees [] d = []
  thread_trees (a ∷ bs) d = always (thread_tree a d.0) ∷ thread_trees bs d.1

  unfoldable pub wire_trees : (v : ℕ) (es : List Expr) → Each InWire es → List Item → List Item
  wire_trees v [] d xs = xs
  wire_trees v (e ∷ es) d xs =
      assign (one (record { target = name_at d.0.0 v; value = expr_tree e d.0.1 })) ∷ wire_trees (v + 1) es d.1 xs

  unfoldable pub declaration_trees : (i r v : ℕ) (ws : List ℕ) → Each InWidth ws → List Item → List Item
  declaration_trees i r v [] d xs = xs
  declaration_trees i r v (w ∷ ws) d xs = declaration_tree i r v w (name_at d.0 v) ∷ declaration_trees i r (v + 1) ws d.1 xs

  unfoldable pub tree_of : (m : Module Expr) → InModule m → ModuleDeclaration
  tree_of m d =
      let c = m.scope in
      record {
        title = record { place = d.title; spelled = ascii "walbryts" };
        ports = ports_tree c.inputs 0 d.ports;
        items =
            declaration_trees c.inputs c.registers 0 c.widths d.widths
            (wire_trees (c.inputs + c.registers) m.wires d.wires (thread_trees m.threads d.threads));
      }
