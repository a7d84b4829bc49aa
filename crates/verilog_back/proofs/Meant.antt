-- The bytes of what the derivation's expressions and statements mean, where each name has its variable's number.
-- Assumes nothing.
use mathlib.Core.Path.{◌≡◌, refl}
use mathlib.Core.List.{List, [], ◌∷◌}
use Prim.Native.Nat.{ℕ, zero, suc, ◌+◌, ◌^◌, ◌≤◌, ◌<◌}
use native.Mathlib.Nat.{mod-eq_of_lt}
use native.Mathlib.Omega.{arith}
use lib.ListN.{length}
use borrow.Author.Tests.{le-leb}
use Rattle.values.specs.declared.Edge.{Edge}
use Rattle.values.specs.declared.Edge.TheVariants.{Change, Posedge, Negedge}
use Rattle.sheet.specs.declared.EdgeTerm.{EdgeTerm}
use Rattle.sheet.specs.Expression.{Expr, variable, constant, unknown, unary, binary, conditional, call, Scope}
use Rattle.sheet.specs.Statement.{Stmt, empty, assign as assigns, later, sequence, if_then, if_else, while, forever, wait}
use Rattle.encoding.specs.Encoding.{encode_expr, encode_stmt}
use Rattle.encoding.specs.WellFormed.{WellTyped, IsTarget, IsAssignment, PairsFit, WellBuilt}
use Rattle.verilog_grammar.specs.AnnexA.{Statement, block, Statements, none, more}
use Rattle.verilog_grammar.specs.Meaning.{up_to, cut, number_expr, nested, block_of, expr_of, primary_of, term_of, terms_of, control_of, stmt_of, or_null_of, stmts_of}
use Rattle.verilog_source.specs.Written.{written_stmt}
use Rattle.verilog_back.specs.Returned.{is_wait, returned}
use Rattle.verilog_back.specs.Tree.{Each, InExpr, InTerm, InStmt, name_at, primary_tree, term_tree, terms_tree, sequence_tree, alone, within, opened_tree, thread_tree}
use Rattle.verilog_back.proofs.Cases.{unary-number, binary-number}

pub up_to-same : (most n : ℕ) → n ≤ most → up_to most n ≡ n
unfolding up_to
up_to-same most n h = rw (le-leb n most h) refl

cut-same : (w v : ℕ) → w ≤ 32 → v < 2 ^ w → cut w v ≡ v
unfolding cut
cut-same w v h l = rw (le-leb w 32 h) (mod-eq_of_lt l)

-- ---- a block has a statement

module _ (called : ℕ → List ℕ) where
  unfoldable More : Statements → Type 0
  More xs = (y : Statement) × (zs : Statements) × (xs ≡ more y zs)

  sequence-more : (a : Stmt Expr) (d : InStmt a) (x : Statement) (ys : Statements) → More (sequence_tree called a d x ys)
  unfolding More sequence_tree
  sequence-more empty d x ys = (x, ys, refl)
  sequence-more (assigns t e) d x ys = (x, ys, refl)
  sequence-more (later t e) d x ys = (x, ys, refl)
  sequence-more (sequence a b) d x ys = (x, ys, refl)
  sequence-more (if_then e a) d x ys = (x, ys, refl)
  sequence-more (if_else e a b) d x ys = (x, ys, refl)
  sequence-more (while e a) d x ys = (x, ys, refl)
  sequence-more (forever a) d x ys = (x, ys, refl)
  sequence-more (wait ts) d x ys = (_, none, refl)

  within_more : (a : Stmt Expr) (d : InStmt a) → More (within called a d)
  unfolding More within
  within_more empty d = (_, none, refl)
  within_more (assigns t e) d = (_, none, refl)
  within_more (later t e) d = (_, none, refl)
  within_more (sequence a b) d = sequence-more a d.0 (alone called a d.0) (within called b d.1)
  within_more (if_then e a) d = (_, none, refl)
  within_more (if_else e a b) d = (_, none, refl)
  within_more (while e a) d = (_, none, refl)
  within_more (forever a) d = (_, none, refl)
  within_more (wait ts) d = (_, none, refl)

  two-parts : (index : List ℕ → ℕ) (s : Stmt Expr) (ys : Statements) → More ys
      → nested s (stmts_of index ys) ≡ sequence s (block_of (stmts_of index ys))
  unfolding More nested block_of stmts_of
  two-parts index s ys h = rw h.2 refl

  module _ (index : List ℕ → ℕ) (c : Scope) (right : (v : ℕ) → v < length c.widths → index (called v) ≡ v) where
    -- ---- expressions

    pub expr-meant : (k : ℕ) (e : Expr) (w : ℕ) → WellTyped c k e w → (d : InExpr e)
        → encode_expr (primary_of index (primary_tree called e d)) ≡ encode_expr e
    unfolding WellTyped primary_tree primary_of expr_of encode_expr number_expr
    expr-meant zero e w t d = absurd t
    expr-meant (suc k) (variable v) w t d = rw (right v t.0) refl
    expr-meant (suc k) (constant l v) w t d = rw (up_to-same 32 l t.0.1, cut-same l v t.0.1 t.1) refl
    expr-meant (suc k) (unknown l) w t d = rw (up_to-same 32 l t.0.1) refl
    expr-meant (suc k) (unary o l a) w t d = rw (unary-number o t.0.0 t.0.1, expr-meant k a l t.1 d) refl
    expr-meant (suc k) (binary o l a b) w t d =
        rw (binary-number o t.0.0 t.0.1, expr-meant k a l t.1 d.0, expr-meant k b l t.2 d.1) refl
    expr-meant (suc k) (conditional b x y) w t d =
        rw (expr-meant k b t.0.0 t.0.1 d.0, expr-meant k x w t.1 d.1, expr-meant k y w t.2 d.2) refl
    expr-meant (suc k) (call n l ys b) w t d = absurd d

    -- ---- waits

    term-meant : (e : Edge) (v p : ℕ) → v < length c.widths
        → terms_of index (term_tree called e (name_at called p v)) ≡ record { edge = e; variable = v } ∷ []
    unfolding term_tree terms_of term_of
    term-meant Change v p h = rw (right v h) refl
    term-meant Posedge v p h = rw (right v h) refl
    term-meant Negedge v p h = rw (right v h) refl

    terms-meant : (ts : List EdgeTerm) (d : Each InTerm ts) → 1 ≤ length ts → PairsFit c.widths ts
        → terms_of index (terms_tree called ts d) ≡ ts
    unfolding terms_tree terms_of PairsFit
    terms-meant [] d l h = absurd (omega arith)
    terms-meant (t ∷ []) d l h = term-meant t.edge t.variable d.0 h.0
    terms-meant (t ∷ u ∷ ts) d l h =
        rw (term-meant t.edge t.variable d.0 h.0, terms-meant (u ∷ ts) d.1 (omega arith) h.2) refl

    wait-meant : (ts : List EdgeTerm) (d : Each InTerm ts) → 1 ≤ length ts → length ts ≤ 8 → PairsFit c.widths ts
        → written_stmt (wait (terms_of index (terms_tree called ts d))) ≡ encode_stmt (wait ts)
    unfolding written_stmt encode_stmt
    wait-meant ts d l m h = rw (terms-meant ts d l h, up_to-same 8 (length ts) m) refl

    -- ---- statements

    -- What a wait's terms are.
    unfoldable Timed : List EdgeTerm → Type 0
    Timed ts = (1 ≤ length ts) × (length ts ≤ 8) × PairsFit c.widths ts

    unfoldable TimedIf : Stmt Expr → Type 0
    TimedIf a = (ts : List EdgeTerm) → a ≡ wait ts → Timed ts

    plain-first : (s : Stmt Expr) (a b : Stmt Expr) (ys : Statements) → More ys → written_stmt s ≡ encode_stmt a
        → written_stmt (block_of (stmts_of index ys)) ≡ encode_stmt b → written_stmt (nested s (stmts_of index ys)) ≡ encode_stmt (sequence a b)
    unfolding written_stmt encode_stmt
    plain-first s a b ys m h k = rw (two-parts index s ys m, h, k) refl

    joined-meant : (s r p q : Stmt Expr) → written_stmt s ≡ encode_stmt p → written_stmt r ≡ encode_stmt q
        → written_stmt (sequence s r) ≡ encode_stmt (sequence p q)
    unfolding written_stmt encode_stmt
    joined-meant s r p q e f = rw (e, f) refl

    sequence-meant : (a b : Stmt Expr) (d : InStmt a) (x : Statement) (ys : Statements) → TimedIf a → More ys
        → written_stmt (stmt_of index x) ≡ encode_stmt (returned a) → written_stmt (block_of (stmts_of index ys)) ≡ encode_stmt (returned b)
        → written_stmt (block_of (stmts_of index (sequence_tree called a d x ys))) ≡ encode_stmt (returned (sequence a b))
    unfolding sequence_tree stmts_of block_of nested control_of returned is_wait TimedIf Timed
    sequence-meant empty b d x ys t m h k = plain-first (stmt_of index x) (returned empty) (returned b) ys m h k
    sequence-meant (assigns v e) b d x ys t m h k = plain-first (stmt_of index x) (returned (assigns v e)) (returned b) ys m h k
    sequence-meant (later v e) b d x ys t m h k = plain-first (stmt_of index x) (returned (later v e)) (returned b) ys m h k
    sequence-meant (sequence a c) b d x ys t m h k = plain-first (stmt_of index x) (returned (sequence a c)) (returned b) ys m h k
    sequence-meant (if_then e a) b d x ys t m h k = plain-first (stmt_of index x) (returned (if_then e a)) (returned b) ys m h k
    sequence-meant (if_else e a c) b d x ys t m h k = plain-first (stmt_of index x) (returned (if_else e a c)) (returned b) ys m h k
    sequence-meant (while e a) b d x ys t m h k = plain-first (stmt_of index x) (returned (while e a)) (returned b) ys m h k
    sequence-meant (forever a) b d x ys t m h k = plain-first (stmt_of index x) (returned (forever a)) (returned b) ys m h k
    sequence-meant (wait ts) b d x ys t m h k =
        let w = t ts refl in
        joined-meant (wait (terms_of index (terms_tree called ts d))) (block_of (stmts_of index ys)) (wait ts) (returned b)
        (wait-meant ts d w.0 w.1 w.2)
        k

    timed-if : (k : ℕ) (a : Stmt Expr) → WellBuilt c k a → TimedIf a
    unfolding TimedIf Timed WellBuilt
    timed-if zero a t ts e = absurd t
    timed-if (suc k) a t ts e =
        let u : WellBuilt c (suc k) (wait ts) = rw e at t in
        (u.0.0, u.0.1, u.1)

    -- A thread's statement means what its block does.
    opened-block : (a b : Stmt Expr) (d : InStmt (sequence a b))
        → stmt_of index (opened_tree called a d.0 (within called b d.1) (block (within called (sequence a b) d)))
        ≡ block_of (stmts_of index (within called (sequence a b) d))
    unfolding opened_tree within sequence_tree stmt_of or_null_of stmts_of block_of nested
    opened-block empty b d = refl
    opened-block (assigns t e) b d = refl
    opened-block (later t e) b d = refl
    opened-block (sequence a c) b d = refl
    opened-block (if_then e a) b d = refl
    opened-block (if_else e a c) b d = refl
    opened-block (while e a) b d = refl
    opened-block (forever a) b d = refl
    opened-block (wait ts) b d = refl

    thread-block : (a : Stmt Expr) (d : InStmt a) → stmt_of index (thread_tree called a d) ≡ block_of (stmts_of index (within called a d))
    unfolding thread_tree stmt_of
    thread-block empty d = refl
    thread-block (assigns t e) d = refl
    thread-block (later t e) d = refl
    thread-block (if_then e a) d = refl
    thread-block (if_else e a b) d = refl
    thread-block (while e a) d = refl
    thread-block (forever a) d = refl
    thread-block (wait ts) d = refl
    thread-block (sequence a b) d = opened-block a b d

    module _ (bound : c.inputs + c.registers ≤ length c.widths) where
      set-meant : (v : ℕ) (e : Expr) → IsAssignment c v e → (p : ℕ) (d : InExpr e)
          → (index (called v) ≡ v) × (encode_expr (primary_of index (primary_tree called e d)) ≡ encode_expr e)
      unfolding IsAssignment IsTarget
      set-meant v e t p d = let z = t.0.1 in (right v (omega arith), expr-meant 16 e _ t.1 d)

      mutual
        unfolding WellBuilt alone within stmt_of or_null_of stmts_of block_of nested expr_of control_of written_stmt encode_stmt returned

        alone-meant : (k : ℕ) (a : Stmt Expr) → WellBuilt c k a → (d : InStmt a)
            → written_stmt (stmt_of index (alone called a d)) ≡ encode_stmt (returned a)
        alone-meant zero a t d = absurd t
        alone-meant (suc k) empty t d = refl
        alone-meant (suc k) (assigns v e) t d = let x = set-meant v e t d.0 d.1 in rw (x.0, x.1) refl
        alone-meant (suc k) (later v e) t d = let x = set-meant v e t d.0 d.1 in rw (x.0, x.1) refl
        alone-meant (suc k) (sequence a b) t d =
            sequence-meant a b d.0 (alone called a d.0) (within called b d.1) (timed-if k a t.0) (within_more b d.1)
            (alone-meant k a t.0 d.0)
            (within-meant k b t.1 d.1)
        alone-meant (suc k) (if_then e a) t d =
            rw (expr-meant 16 e t.0.0 t.0.1 d.0, within-meant k a t.1 d.1) refl
        alone-meant (suc k) (if_else e a b) t d =
            rw (expr-meant 16 e t.0.0 t.0.1 d.0, within-meant k a t.1 d.1, within-meant k b t.2 d.2) refl
        alone-meant (suc k) (while e a) t d =
            rw (expr-meant 16 e t.0.0 t.0.1 d.0, within-meant k a t.1 d.1) refl
        alone-meant (suc k) (forever a) t d = rw (within-meant k a t d) refl
        alone-meant (suc k) (wait ts) t d =
            let x = terms-meant ts d t.0.0 t.1 in
            rw (x, up_to-same 8 (length ts) t.0.1) refl

        within-meant : (k : ℕ) (a : Stmt Expr) → WellBuilt c k a → (d : InStmt a)
            → written_stmt (block_of (stmts_of index (within called a d))) ≡ encode_stmt (returned a)
        within-meant zero a t d = absurd t
        within-meant (suc k) empty t d = refl
        within-meant (suc k) (assigns v e) t d = let x = set-meant v e t d.0 d.1 in rw (x.0, x.1) refl
        within-meant (suc k) (later v e) t d = let x = set-meant v e t d.0 d.1 in rw (x.0, x.1) refl
        within-meant (suc k) (sequence a b) t d =
            sequence-meant a b d.0 (alone called a d.0) (within called b d.1) (timed-if k a t.0) (within_more b d.1)
            (alone-meant k a t.0 d.0)
            (within-meant k b t.1 d.1)
        within-meant (suc k) (if_then e a) t d =
            rw (expr-meant 16 e t.0.0 t.0.1 d.0, within-meant k a t.1 d.1) refl
        within-meant (suc k) (if_else e a b) t d =
            rw (expr-meant 16 e t.0.0 t.0.1 d.0, within-meant k a t.1 d.1, within-meant k b t.2 d.2) refl
        within-meant (suc k) (while e a) t d =
            rw (expr-meant 16 e t.0.0 t.0.1 d.0, within-meant k a t.1 d.1) refl
        within-meant (suc k) (forever a) t d = rw (within-meant k a t d) refl
        within-meant (suc k) (wait ts) t d =
            let x = terms-meant ts d t.0.0 t.1 in
            rw (x, up_to-same 8 (length ts) t.0.1) refl

      pub thread-meant : (a : Stmt Expr) → WellBuilt c 64 a → (d : InStmt a)
          → written_stmt (stmt_of index (thread_tree called a d)) ≡ encode_stmt (returned a)
      thread-meant a t d = rw (thread-block a d) (within-meant 64 a t d)
