-- The derivation of the printed module counts: everything is in parentheses, every body is a block.
-- Assumes nothing.
use mathlib.Core.Path.{refl}
use mathlib.Core.Bool.{Bool, true, false}
use mathlib.Core.List.{List, [], ◌∷◌}
use Prim.Native.Nat.{ℕ, ◌+◌, ◌<◌}
use native.Mathlib.Omega.{arith}
use lib.Dec.{ltb}
use Rattle.values.specs.Values.{pick}
use Rattle.sheet.specs.Expression.{Expr, variable, constant, unknown, unary, binary, conditional, call}
use Rattle.sheet.specs.Statement.{Stmt, empty, assign as assigns, later, sequence, if_then, if_else, while, forever, wait}
use Rattle.sheet.specs.Module.{Module}
use Rattle.verilog_tokens.specs.Tokens.{Name}
use Rattle.verilog_grammar.specs.AnnexA.{Binary, plus, minus, equals, less, conjunction, disjunction, exclusive, Statement, block, Statements, Item, input, reg, wire, one}
use Rattle.verilog_grammar.specs.Conditions.{precedence, level, Grouped, GroupedPrimary, is_open, is_open_or_null, Settled, SettledOrNull, SettledAll, Every, GroupedNet, SettledPart, SettledParts, Counts}
use Rattle.verilog_back.specs.Tree.{Each, InExpr, InWidth, InStmt, InWire, InModule, binary_of, range_of, primary_tree, sequence_tree, alone, within, opened_tree, thread_tree, declaration_tree, thread_trees, wire_trees, declaration_trees, tree_of}

below-eight : (o : Binary) → precedence o < 8
unfolding precedence
below-eight plus = omega arith
below-eight minus = omega arith
below-eight less = omega arith
below-eight equals = omega arith
below-eight conjunction = omega arith
below-eight exclusive = omega arith
below-eight disjunction = omega arith

module _ (called : ℕ → List ℕ) where
  grouped : (e : Expr) (d : InExpr e) → GroupedPrimary (primary_tree called e d)
  unfolding primary_tree Grouped GroupedPrimary level
  grouped (variable v) d = tt
  grouped (constant w v) d = tt
  grouped (unknown w) d = tt
  grouped (unary o w a) d = grouped a d
  grouped (binary o w a b) d =
      let h = below-eight (binary_of o) in
      (grouped a d.0, grouped b d.1, omega arith, h)
  grouped (conditional c a b) d = (grouped c d.0, grouped a d.1, grouped b d.2, omega arith)
  grouped (call n w ys b) d = absurd d

  sequence-settled : (a : Stmt Expr) (d : InStmt a) (x : Statement) (ys : Statements) → Settled x → SettledAll ys
      → SettledAll (sequence_tree called a d x ys)
  unfolding sequence_tree Settled SettledAll SettledOrNull
  sequence-settled empty d x ys h k = (h, k)
  sequence-settled (assigns t e) d x ys h k = (h, k)
  sequence-settled (later t e) d x ys h k = (h, k)
  sequence-settled (sequence a b) d x ys h k = (h, k)
  sequence-settled (if_then e a) d x ys h k = (h, k)
  sequence-settled (if_else e a b) d x ys h k = (h, k)
  sequence-settled (while e a) d x ys h k = (h, k)
  sequence-settled (forever a) d x ys h k = (h, k)
  sequence-settled (wait ts) d x ys h k = (k, tt)

  mutual
    unfolding alone within Settled SettledAll SettledOrNull Grouped is_open is_open_or_null

    alone-settled : (a : Stmt Expr) (d : InStmt a) → Settled (alone called a d)
    alone-settled empty d = tt
    alone-settled (assigns t e) d = grouped e d.1
    alone-settled (later t e) d = grouped e d.1
    alone-settled (sequence a b) d =
        sequence-settled a d.0 (alone called a d.0) (within called b d.1) (alone-settled a d.0) (within-settled b d.1)
    alone-settled (if_then e a) d = (grouped e d.0, within-settled a d.1)
    alone-settled (if_else e a b) d = (grouped e d.0, within-settled a d.1, within-settled b d.2, refl)
    alone-settled (while e a) d = (grouped e d.0, within-settled a d.1)
    alone-settled (forever a) d = within-settled a d
    alone-settled (wait ts) d = tt

    within-settled : (a : Stmt Expr) (d : InStmt a) → SettledAll (within called a d)
    within-settled empty d = (tt, tt)
    within-settled (assigns t e) d = (grouped e d.1, tt)
    within-settled (later t e) d = (grouped e d.1, tt)
    within-settled (sequence a b) d =
        sequence-settled a d.0 (alone called a d.0) (within called b d.1) (alone-settled a d.0) (within-settled b d.1)
    within-settled (if_then e a) d = ((grouped e d.0, within-settled a d.1), tt)
    within-settled (if_else e a b) d = ((grouped e d.0, within-settled a d.1, within-settled b d.2, refl), tt)
    within-settled (while e a) d = ((grouped e d.0, within-settled a d.1), tt)
    within-settled (forever a) d = (within-settled a d, tt)
    within-settled (wait ts) d = (tt, tt)

  opened-settled : (a b : Stmt Expr) (d : InStmt (sequence a b))
      → Settled (opened_tree called a d.0 (within called b d.1) (block (within called (sequence a b) d)))
  unfolding opened_tree Settled SettledOrNull
  opened-settled empty b d = within-settled (sequence empty b) d
  opened-settled (assigns t e) b d = within-settled (sequence (assigns t e) b) d
  opened-settled (later t e) b d = within-settled (sequence (later t e) b) d
  opened-settled (sequence a c) b d = within-settled (sequence (sequence a c) b) d
  opened-settled (if_then e a) b d = within-settled (sequence (if_then e a) b) d
  opened-settled (if_else e a c) b d = within-settled (sequence (if_else e a c) b) d
  opened-settled (while e a) b d = within-settled (sequence (while e a) b) d
  opened-settled (forever a) b d = within-settled (sequence (forever a) b) d
  opened-settled (wait ts) b d = within-settled b d.1

  thread-settled : (a : Stmt Expr) (d : InStmt a) → Settled (thread_tree called a d)
  unfolding thread_tree Settled
  thread-settled empty d = within-settled empty d
  thread-settled (assigns t e) d = within-settled (assigns t e) d
  thread-settled (later t e) d = within-settled (later t e) d
  thread-settled (if_then e a) d = within-settled (if_then e a) d
  thread-settled (if_else e a b) d = within-settled (if_else e a b) d
  thread-settled (while e a) d = within-settled (while e a) d
  thread-settled (forever a) d = within-settled (forever a) d
  thread-settled (wait ts) d = within-settled (wait ts) d
  thread-settled (sequence a b) d = opened-settled a b d

  threads-settled : (bs : List (Stmt Expr)) (d : Each InStmt bs) → SettledParts (thread_trees called bs d)
  unfolding thread_trees SettledParts SettledPart
  threads-settled [] d = tt
  threads-settled (a ∷ bs) d = (thread-settled a d.0, threads-settled bs d.1)

  wires-settled : (v : ℕ) (es : List Expr) (d : Each InWire es) (xs : List Item) → SettledParts xs
      → SettledParts (wire_trees called v es d xs)
  unfolding wire_trees SettledParts SettledPart Every GroupedNet Grouped
  wires-settled v [] d xs h = h
  wires-settled v (e ∷ es) d xs h = (grouped e d.0.1, wires-settled (v + 1) es d.1 xs h)

  declaration-settled : (i r v w : ℕ) (n : Name) → SettledPart (declaration_tree called i r v w n)
  unfolding declaration_tree SettledPart
  declaration-settled i r v w n = by (ltb v i) (ltb v (i + r))
    where
      by : (x y : Bool) → SettledPart (pick x (input (range_of w) (one n)) (pick y (reg (range_of w) (one n)) (wire (range_of w) (one n))))
      by true y = tt
      by false true = tt
      by false false = tt

  declarations-settled : (i r v : ℕ) (ws : List ℕ) (d : Each InWidth ws) (xs : List Item) → SettledParts xs
      → SettledParts (declaration_trees called i r v ws d xs)
  unfolding declaration_trees SettledParts
  declarations-settled i r v [] d xs h = h
  declarations-settled i r v (w ∷ ws) d xs h = (declaration-settled i r v w _, declarations-settled i r (v + 1) ws d.1 xs h)

  pub tree-counts : (m : Module Expr) (d : InModule m) → Counts (tree_of called m d)
  unfolding tree_of Counts
  tree-counts m d =
      let c = m.scope in
      declarations-settled c.inputs c.registers 0 c.widths d.widths _
      (wires-settled (c.inputs + c.registers) m.wires d.wires _ (threads-settled m.threads d.threads))
