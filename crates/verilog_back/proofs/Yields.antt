-- The derivation of the printed module yields its tokens, for some places of its names.
-- Assumes nothing.
use mathlib.Core.Path.{◌≡◌, refl, sym, ap, ◌∙◌}
use mathlib.Core.Bool.{Bool, true, false}
use mathlib.Core.List.{List, [], ◌∷◌, ◌++◌}
use Prim.Native.Nat.{ℕ, zero, suc, ◌+◌, ◌-◌, ◌*◌, ◌≤◌}
use Prim.Native.String.{String}
use native.Mathlib.Omega.{arith}
use lib.Dec.{ltb, eqb}
use lib.ListN.{length}
use borrow.Author.Tests.{eqb-false, ne_eqb}
use Rattle.values.specs.Values.{pick}
use Rattle.values.specs.declared.Edge.{Edge}
use Rattle.values.specs.declared.Edge.TheVariants.{Change, Posedge, Negedge}
use Rattle.sheet.specs.declared.EdgeTerm.{EdgeTerm}
use Rattle.sheet.specs.Expression.{Expr, variable, constant, unknown, unary, binary, conditional, call, Scope}
use Rattle.sheet.specs.Statement.{Stmt, empty, assign as assigns, later, sequence, if_then, if_else, while, forever, wait}
use Rattle.sheet.specs.Module.{Module}
use Rattle.encoding.specs.WellFormed.{WellTyped, IsAssignment, WellBuilt, AreWidths, WiresFit, ThreadsFit, WellFormed}
use Rattle.writing.specs.Ascii.{ascii}
use Rattle.writing.specs.Numbers.{decimal}
use Rattle.verilog.specs.Verilog.{front, opening, remainder}
use Rattle.verilog_tokens.specs.Tokens.{Token, terminal, name, number}
use Rattle.verilog_grammar.specs.AnnexA.{mark, unary_sign, binary_sign, spell_number, spell, spell_primary, spell_event, spell_control}
use Rattle.verilog_grammar.specs.AnnexA.{block, Statements, none, more, spell_condition, spell_statement, spell_or_null, spell_all}
use Rattle.verilog_grammar.specs.AnnexA.{one, spell_listed, spell_name, no_range, down_to, spell_range, spell_net, Item, input, reg, wire, spell_declared, spell_part, spell_parts, yield}
use Rattle.verilog_lexed.specs.Lexed.{From, blanks, marks, names, counts, values, unknowns, between, spaced, indented, sign_tokens, or_tokens, comma_tokens, edge_tokens, range_tokens, direction_tokens, ended, opened, closed, expr_tokens, term_tokens, terms_tokens, sequence_tokens, stmt_tokens, port_tokens, ports_tokens, wires_tokens, opened_tokens, thread_tokens, threads_tokens, declaration_tokens, declarations_tokens, module_tokens, nothing}
use Rattle.verilog_back.specs.Tree.{Each, InExpr, InTerm, InWidth, InStmt, InWire, InPorts, InModule, unary_of, binary_of, range_of, name_at, primary_tree, expr_tree, term_tree, terms_tree, sequence_tree, alone, within, opened_tree, thread_tree, ports_tree, declaration_tree, thread_trees, wire_trees, declaration_trees, tree_of}
use Rattle.verilog_back.proofs.Cases.{one-or-two, three-to-nine}

-- ---- pieces

spaced-at : (s : String) (rest : From) (p : ℕ) → (q : ℕ) × (spaced s rest p ≡ mark s ∷ rest q)
unfolding spaced marks blanks
spaced-at s rest p = (p + length (ascii s) + 1, refl)

between-at : (s : String) (rest : From) (p : ℕ) → (q : ℕ) × (between s rest p ≡ mark s ∷ rest q)
unfolding between marks blanks
between-at s rest p = (p + 1 + length (ascii s) + 1, refl)

opened-at : (rest : From) (p : ℕ) → (q : ℕ) × (opened rest p ≡ mark ")" ∷ mark "begin" ∷ rest q)
unfolding opened spaced marks blanks
opened-at rest p = (p + length (ascii ")") + 1 + length (ascii "begin") + 1, refl)

closed_at : (n : ℕ) (rest : From) (p : ℕ) → (q : ℕ) × (closed n rest p ≡ mark "end" ∷ rest q)
unfolding closed indented spaced marks blanks
closed_at n rest p = (p + 2 * n + length (ascii "end") + 1, refl)

ended_at : (rest : From) (p : ℕ) → (q : ℕ) × (ended rest p ≡ mark ";" ∷ rest q)
unfolding ended
ended_at rest p = spaced-at ";" rest p

positive : (n : ℕ) → 1 ≤ n → eqb n 0 ≡ false
positive n h = ne_eqb n 0 (λ e. omega arith)

counted-at : (n : ℕ) → 1 ≤ n → (rest : From) (p : ℕ) → (q : ℕ) × (counts n rest p ≡ number true n ∷ rest q)
unfolding counts
counted-at n h rest p = (p + length (decimal n), rw (positive n h) refl)

unary-sign : (o : ℕ) → 1 ≤ o → o ≤ 2 → (rest : From) (p : ℕ) → (q : ℕ) × (sign_tokens o rest p ≡ terminal (unary_sign (unary_of o)) ∷ rest q)
unfolding sign_tokens marks unary_sign unary_of
unary-sign o l h rest p =
    one-or-two (λ n. (q : ℕ) × (sign_tokens n rest p ≡ terminal (unary_sign (unary_of n)) ∷ rest q)) o l h
    (p + length (ascii "~"), refl)
    (p + length (ascii "!"), refl)

binary-sign : (o : ℕ) → 3 ≤ o → o ≤ 9 → (rest : From) (p : ℕ)
    → (q : ℕ) × (sign_tokens o rest p ≡ terminal (binary_sign (binary_of o)) ∷ rest q)
unfolding sign_tokens binary_sign binary_of
binary-sign o l h rest p =
    three-to-nine (λ n. (q : ℕ) × (sign_tokens n rest p ≡ terminal (binary_sign (binary_of n)) ∷ rest q)) o l h
    (between-at "&" rest p)
    (between-at "|" rest p)
    (between-at "^" rest p)
    (between-at "+" rest p)
    (between-at "-" rest p)
    (between-at "==" rest p)
    (between-at "<" rest p)

-- ---- blocks without their `end`

unfoldable spell_some : Statements → List Token → List Token
spell_some none rest = rest
spell_some (more a xs) rest = spell_statement a (spell_some xs rest)

all-some : (xs : Statements) (rest : List Token) → spell_all xs rest ≡ spell_some xs (mark "end" ∷ rest)
unfolding spell_all spell_some
all-some none rest = refl
all-some (more a xs) rest = rw (all-some xs rest) refl

module _ (called : ℕ → List ℕ) where
  -- ---- expressions

  expr-yields : (sc : Scope) → sc.declared ≡ 0 → (n : ℕ) (e : Expr) (w : ℕ) → WellTyped sc n e w → (rest : From) (p : ℕ)
      → (d : InExpr e) × (q : ℕ) × (expr_tokens called e rest p ≡ spell_primary (primary_tree called e d) (rest q))
  unfolding WellTyped expr_tokens names marks values unknowns primary_tree spell_primary spell spell_number
  expr-yields sc uncalled zero e w t rest p = absurd t
  expr-yields sc uncalled (suc n) (variable v) w t rest p = (p, p + length (called v), refl)
  expr-yields sc uncalled (suc n) (constant k v) w t rest p =
      let x = counted-at k t.0.0 (values v rest) p in
      (tt, x.0 + length (ascii "'d" ++ decimal v), x.1)
  expr-yields sc uncalled (suc n) (unknown k) w t rest p =
      let x = counted-at k t.0.0 (unknowns rest) p in
      (tt, x.0 + length (ascii "'bx"), x.1)
  expr-yields sc uncalled (suc n) (unary o k a) w t rest p =
      let s = unary-sign o t.0.0 t.0.1 (expr_tokens called a (marks ")" rest)) (p + length (ascii "(")) in
      let x = expr-yields sc uncalled n a k t.1 (marks ")" rest) s.0 in (
        x.0,
        x.1 + length (ascii ")"),
        ap (λ (l : List Token). mark "(" ∷ l) (s.1 ∙ ap (λ (l : List Token). terminal (unary_sign (unary_of o)) ∷ l) x.2),
      )
  expr-yields sc uncalled (suc n) (binary o k a b) w t rest p =
      let x = expr-yields sc uncalled n a k t.1 (sign_tokens o (expr_tokens called b (marks ")" rest))) (p + length (ascii "(")) in
      let s = binary-sign o t.0.0 t.0.1 (expr_tokens called b (marks ")" rest)) x.1 in
      let y = expr-yields sc uncalled n b k t.2 (marks ")" rest) s.0 in (
        (x.0, y.0),
        y.1 + length (ascii ")"),
        ap (λ (l : List Token). mark "(" ∷ l)
            (x.2 ∙ ap (λ (l : List Token). spell_primary (primary_tree called a x.0) l)
            (s.1 ∙ ap (λ (l : List Token). terminal (binary_sign (binary_of o)) ∷ l) y.2)),
      )
  expr-yields sc uncalled (suc n) (conditional c a b) w t rest p =
      let second = expr_tokens called b (marks ")" rest) in
      let first = expr_tokens called a (between ":" second) in
      let x = expr-yields sc uncalled n c t.0.0 t.0.1 (between "?" first) (p + length (ascii "(")) in
      let s = between-at "?" first x.1 in
      let y = expr-yields sc uncalled n a w t.1 (between ":" second) s.0 in
      let u = between-at ":" second y.1 in
      let z = expr-yields sc uncalled n b w t.2 (marks ")" rest) u.0 in (
        (x.0, y.0, z.0),
        z.1 + length (ascii ")"),
        ap (λ (l : List Token). mark "(" ∷ l)
            (x.2 ∙ ap (λ (l : List Token). spell_primary (primary_tree called c x.0) l)
            (s.1 ∙ ap (λ (l : List Token). mark "?" ∷ l)
            (y.2 ∙ ap (λ (l : List Token). spell_primary (primary_tree called a y.0) l)
            (u.1 ∙ ap (λ (l : List Token). mark ":" ∷ l) z.2)))),
      )
  expr-yields sc uncalled (suc n) (call i k ys b) w t rest p = absurd (omega (arith, uncalled, t.0))

  -- ---- waits

  term-yields : (e : Edge) (v : ℕ) (rest : From) (p : ℕ)
      → (d : ℕ) × (q : ℕ) × (edge_tokens e (names (called v) rest) p ≡ spell_event (term_tree called e (name_at called d v)) (rest q))
  unfolding edge_tokens names term_tree spell_event spaced marks blanks
  term-yields Change v rest p = (p, p + length (called v), refl)
  term-yields Posedge v rest p =
      (p + length (ascii "posedge") + 1, p + length (ascii "posedge") + 1 + length (called v), refl)
  term-yields Negedge v rest p =
      (p + length (ascii "negedge") + 1, p + length (ascii "negedge") + 1 + length (called v), refl)

  or_at : (k : ℕ) (rest : From) (p : ℕ) → (q : ℕ) × (or_tokens (k + 1) rest p ≡ mark "or" ∷ rest q)
  unfolding or_tokens
  or_at k rest p = rw (positive (k + 1) (omega arith)) (between-at "or" rest p)

  terms-from : (k : ℕ) (t : EdgeTerm) (ts : List EdgeTerm) (rest : From) (p : ℕ)
      → (d : Each InTerm (t ∷ ts)) × (q : ℕ) × (edge_tokens t.edge (names (called t.variable) (terms_tokens called (k + 1) ts rest)) p
      ≡ spell_event (terms_tree called (t ∷ ts) d) (rest q))
  unfolding terms_tokens term_tokens terms_tree spell_event
  terms-from k t [] rest p =
      let x = term-yields t.edge t.variable rest p in
      ((x.0, tt), x.1, x.2)
  terms-from k t (u ∷ ts) rest p =
      let inner = edge_tokens u.edge (names (called u.variable) (terms_tokens called (k + 1 + 1) ts rest)) in
      let x = term-yields t.edge t.variable (or_tokens (k + 1) inner) p in
      let o = or_at k inner x.1 in
      let y = terms-from (k + 1) u ts rest o.0 in (
        (x.0, y.0),
        y.1,
        x.2 ∙ ap (λ (l : List Token). spell_event (term_tree called t.edge (name_at called x.0 t.variable)) l)
            (o.1 ∙ ap (λ (l : List Token). mark "or" ∷ l) y.2),
      )

  terms-yields : (ts : List EdgeTerm) → 1 ≤ length ts → (rest : From) (p : ℕ)
      → (d : Each InTerm ts) × (q : ℕ) × (terms_tokens called 0 ts rest p ≡ spell_event (terms_tree called ts d) (rest q))
  unfolding terms_tokens term_tokens or_tokens
  terms-yields [] h rest p = absurd (omega arith)
  terms-yields (t ∷ ts) h rest p = terms-from 0 t ts rest p

  -- ---- statements

  unfoldable Yields : Stmt Expr → Type 0
  Yields a = (n : ℕ) (rest : From) (p : ℕ)
      → (d : InStmt a) × (q : ℕ) × (stmt_tokens called n a rest p ≡ spell_some (within called a d) (rest q))

  -- In a block that is closed behind it.
  in_block : (a : Stmt Expr) → Yields a → (k n : ℕ) (rest : From) (p : ℕ)
      → (d : InStmt a) × (q : ℕ) × (stmt_tokens called k a (closed n rest) p ≡ spell_all (within called a d) (rest q))
  unfolding Yields
  in_block a h k n rest p =
      let x = h k (closed n rest) p in
      let c = closed_at n rest x.1 in (
        x.0,
        c.0,
        x.2 ∙ ap (λ (l : List Token). spell_some (within called a x.0) l) c.1
            ∙ sym (all-some (within called a x.0) (rest c.0)),
      )

  -- Of a first part that is one statement.
  one-first : (a b : Stmt Expr) → Yields a → Yields b → (n : ℕ) (rest : From) (p : ℕ)
      → (d : InStmt a) × (e : InStmt b) × (q : ℕ) × (stmt_tokens called n a (stmt_tokens called n b rest) p
      ≡ spell_some (within called a d) (spell_some (within called b e) (rest q)))
  unfolding Yields
  one-first a b h k n rest p =
      let x = h n (stmt_tokens called n b rest) p in
      let y = k n rest x.1 in
      (x.0, y.0, y.1, x.2 ∙ ap (λ (l : List Token). spell_some (within called a x.0) l) y.2)

  sequence-yields : (a b : Stmt Expr) → ((ts : List EdgeTerm) → a ≡ wait ts → 1 ≤ length ts) → Yields a → Yields b → Yields (sequence a b)
  unfolding Yields stmt_tokens sequence_tokens front within alone sequence_tree spell_some spell_statement spell_control
      spell_or_null indented blanks marks
  sequence-yields empty b w h k n rest p =
      let x = one-first empty b h k n rest p in
      ((x.0, x.1), x.2, x.3)
  sequence-yields (assigns t e) b w h k n rest p =
      let x = one-first (assigns t e) b h k n rest p in
      ((x.0, x.1), x.2, x.3)
  sequence-yields (later t e) b w h k n rest p =
      let x = one-first (later t e) b h k n rest p in
      ((x.0, x.1), x.2, x.3)
  sequence-yields (if_then e a) b w h k n rest p =
      let x = one-first (if_then e a) b h k n rest p in
      ((x.0, x.1), x.2, x.3)
  sequence-yields (if_else e a c) b w h k n rest p =
      let x = one-first (if_else e a c) b h k n rest p in
      ((x.0, x.1), x.2, x.3)
  sequence-yields (while e a) b w h k n rest p =
      let x = one-first (while e a) b h k n rest p in
      ((x.0, x.1), x.2, x.3)
  sequence-yields (forever a) b w h k n rest p =
      let x = one-first (forever a) b h k n rest p in
      ((x.0, x.1), x.2, x.3)
  sequence-yields (sequence a c) b w h k n rest p =
      let inner = stmt_tokens called (n + 1) (sequence a c) (closed n (stmt_tokens called n b rest)) in
      let s = spaced-at "begin" inner (p + 2 * n) in
      let x = in_block (sequence a c) h (n + 1) n (stmt_tokens called n b rest) s.0 in
      let y = k n rest x.1 in (
        (x.0, y.0),
        y.1,
        s.1 ∙ ap (λ (l : List Token). mark "begin" ∷ l)
            (x.2 ∙ ap (λ (l : List Token). spell_all (within called (sequence a c) x.0) l) y.2),
      )
  sequence-yields (wait ts) b w h k n rest p =
      let inner = stmt_tokens called (n + 1) b (closed n rest) in
      let t = terms-yields ts (w ts refl) (opened inner) (p + 2 * n + length (ascii "@") + length (ascii "(")) in
      let o = opened-at inner t.1 in
      let x = in_block b k (n + 1) n rest o.0 in (
        (t.0, x.0),
        x.1,
        ap (λ (l : List Token). mark "@" ∷ mark "(" ∷ l)
            (t.2 ∙ ap (λ (l : List Token). spell_event (terms_tree called ts t.0) l)
            (o.1 ∙ ap (λ (l : List Token). mark ")" ∷ mark "begin" ∷ l) x.2)),
      )

  -- A condition in parentheses and a block.
  guarded : (sc : Scope) → sc.declared ≡ 0 → (e : Expr) (w : ℕ) → WellTyped sc 16 e w → (a : Stmt Expr) → Yields a → (n : ℕ) (rest : From) (p : ℕ)
      → (d : InExpr e) × (f : InStmt a) × (q : ℕ)
      × (marks "(" (expr_tokens called e (opened (stmt_tokens called (n + 1) a (closed n rest)))) p
      ≡ spell_condition (expr_tree called e d) (mark "begin" ∷ spell_all (within called a f) (rest q)))
  unfolding marks spell_condition spell
  guarded sc uncalled e w t a h n rest p =
      let inner = stmt_tokens called (n + 1) a (closed n rest) in
      let x = expr-yields sc uncalled 16 e w t (opened inner) (p + length (ascii "(")) in
      let o = opened-at inner x.1 in
      let y = in_block a h (n + 1) n rest o.0 in (
        x.0,
        y.0,
        y.1,
        ap (λ (l : List Token). mark "(" ∷ l)
            (x.2 ∙ ap (λ (l : List Token). spell_primary (primary_tree called e x.0) l)
            (o.1 ∙ ap (λ (l : List Token). mark ")" ∷ mark "begin" ∷ l) y.2)),
      )

  -- A target, its sign, and an expression.
  assigned : (s : String) (sc : Scope) → sc.declared ≡ 0 → (e : Expr) (w : ℕ) → WellTyped sc 16 e w → (v : ℕ) (rest : From) (p : ℕ)
      → (d : InExpr e) × (q : ℕ) × (names (called v) (between s (expr_tokens called e (ended rest))) p
      ≡ name (name_at called p v) ∷ mark s ∷ spell_primary (primary_tree called e d) (mark ";" ∷ rest q))
  unfolding names
  assigned s sc uncalled e w t v rest p =
      let b = between-at s (expr_tokens called e (ended rest)) (p + length (called v)) in
      let x = expr-yields sc uncalled 16 e w t (ended rest) b.0 in
      let u = ended_at rest x.1 in (
        x.0,
        u.0,
        ap (λ (l : List Token). name (name_at called p v) ∷ l)
            (b.1 ∙ ap (λ (l : List Token). mark s ∷ l)
            (x.2 ∙ ap (λ (l : List Token). spell_primary (primary_tree called e x.0) l) u.1)),
      )

  wait-terms : (c : Scope) (k : ℕ) (a : Stmt Expr) → WellBuilt c k a → (ts : List EdgeTerm) → a ≡ wait ts → 1 ≤ length ts
  unfolding WellBuilt
  wait-terms c zero a t ts e = absurd t
  wait-terms c (suc k) a t ts e = let u : WellBuilt c (suc k) (wait ts) = rw e at t in u.0.0

  wait-yields : (ts : List EdgeTerm) → 1 ≤ length ts → Yields (wait ts)
  unfolding Yields stmt_tokens within spell_some spell_statement spell_control spell_or_null indented blanks marks
  wait-yields ts h n rest p =
      let x = terms-yields ts h (marks ")" (ended rest)) (p + 2 * n + length (ascii "@") + length (ascii "(")) in
      let u = ended_at rest (x.1 + length (ascii ")")) in (
        x.0,
        u.0,
        ap (λ (l : List Token). mark "@" ∷ mark "(" ∷ l)
            (x.2 ∙ ap (λ (l : List Token). spell_event (terms_tree called ts x.0) (mark ")" ∷ l)) u.1),
      )

  stmt-yields : (c : Scope) → c.declared ≡ 0 → (k : ℕ) (a : Stmt Expr) → WellBuilt c k a → Yields a
  unfolding WellBuilt IsAssignment Yields stmt_tokens within spell_some spell_statement spell_control spell_or_null spell_all spell
      indented blanks closed
  stmt-yields c uncalled zero a t n rest p = absurd t
  stmt-yields c uncalled (suc k) empty t n rest p =
      let s = spaced-at "begin" (spaced "end" rest) (p + 2 * n) in
      let u = spaced-at "end" rest s.0 in
      (tt, u.0, s.1 ∙ ap (λ (l : List Token). mark "begin" ∷ l) u.1)
  stmt-yields c uncalled (suc k) (assigns v e) t n rest p =
      let x = assigned "=" c uncalled e _ t.1 v rest (p + 2 * n) in
      ((p + 2 * n, x.0), x.1, x.2)
  stmt-yields c uncalled (suc k) (later v e) t n rest p =
      let x = assigned "<=" c uncalled e _ t.1 v rest (p + 2 * n) in
      ((p + 2 * n, x.0), x.1, x.2)
  stmt-yields c uncalled (suc k) (sequence a b) t n rest p =
      sequence-yields a b (wait-terms c k a t.0) (stmt-yields c uncalled k a t.0) (stmt-yields c uncalled k b t.1) n rest p
  stmt-yields c uncalled (suc k) (if_then e a) t n rest p =
      let s = spaced-at "if" (marks "(" (expr_tokens called e (opened (stmt_tokens called (n + 1) a (closed n rest))))) (p + 2 * n) in
      let x = guarded c uncalled e t.0.0 t.0.1 a (stmt-yields c uncalled k a t.1) n rest s.0 in
      ((x.0, x.1), x.2, s.1 ∙ ap (λ (l : List Token). mark "if" ∷ l) x.3)
  stmt-yields c uncalled (suc k) (if_else e a b) t n rest p =
      let last = stmt_tokens called (n + 1) b (closed n rest) in
      let other = spaced "else" (spaced "begin" last) in
      let s = spaced-at "if" (marks "(" (expr_tokens called e (opened (stmt_tokens called (n + 1) a (closed n other))))) (p + 2 * n) in
      let x = guarded c uncalled e t.0.0 t.0.1 a (stmt-yields c uncalled k a t.1) n other s.0 in
      let y = spaced-at "else" (spaced "begin" last) x.2 in
      let z = spaced-at "begin" last y.0 in
      let u = in_block b (stmt-yields c uncalled k b t.2) (n + 1) n rest z.0 in (
        (x.0, x.1, u.0),
        u.1,
        s.1 ∙ ap (λ (l : List Token). mark "if" ∷ l)
            (x.3 ∙ ap (λ (l : List Token). spell_condition (expr_tree called e x.0) (mark "begin" ∷ spell_all (within called a x.1) l))
            (y.1 ∙ ap (λ (l : List Token). mark "else" ∷ l) (z.1 ∙ ap (λ (l : List Token). mark "begin" ∷ l) u.2))),
      )
  stmt-yields c uncalled (suc k) (while e a) t n rest p =
      let s = spaced-at "while" (marks "(" (expr_tokens called e (opened (stmt_tokens called (n + 1) a (closed n rest))))) (p + 2 * n) in
      let x = guarded c uncalled e t.0.0 t.0.1 a (stmt-yields c uncalled k a t.1) n rest s.0 in
      ((x.0, x.1), x.2, s.1 ∙ ap (λ (l : List Token). mark "while" ∷ l) x.3)
  stmt-yields c uncalled (suc k) (forever a) t n rest p =
      let inner = stmt_tokens called (n + 1) a (closed n rest) in
      let s = spaced-at "forever" (spaced "begin" inner) (p + 2 * n) in
      let u = spaced-at "begin" inner s.0 in
      let x = in_block a (stmt-yields c uncalled k a t) (n + 1) n rest u.0 in (
        x.0,
        x.1,
        s.1 ∙ ap (λ (l : List Token). mark "forever" ∷ l) (u.1 ∙ ap (λ (l : List Token). mark "begin" ∷ l) x.2),
      )
  stmt-yields c uncalled (suc k) (wait ts) t n rest p = wait-yields ts t.0.0 n rest p

  -- ---- ports

  comma-at : (v : ℕ) (rest : From) (p : ℕ) → (q : ℕ) × (comma_tokens (v + 1) rest p ≡ mark "," ∷ rest q)
  unfolding comma_tokens
  comma-at v rest p = rw (positive (v + 1) (omega arith)) (spaced-at "," rest p)

  ports-from : (n v : ℕ) (rest : From) (p : ℕ)
      → (d : InPorts (suc n)) × (q : ℕ) × (names (called v) (ports_tokens called n (v + 1) rest) p
      ≡ spell_listed spell_name (ports_tree called (suc n) v d) (rest q))
  unfolding names ports_tokens port_tokens ports_tree spell_listed spell_name
  ports-from zero v rest p = ((p, tt), p + length (called v), refl)
  ports-from (suc n) v rest p =
      let c = comma-at v (names (called (v + 1)) (ports_tokens called n (v + 1 + 1) rest)) (p + length (called v)) in
      let x = ports-from n (v + 1) rest c.0 in (
        (p, x.0),
        x.1,
        ap (λ (l : List Token). name (name_at called p v) ∷ l) (c.1 ∙ ap (λ (l : List Token). mark "," ∷ l) x.2),
      )

  ports-yields : (n : ℕ) → 1 ≤ n → (rest : From) (p : ℕ)
      → (d : InPorts n) × (q : ℕ) × (ports_tokens called n 0 rest p ≡ spell_listed spell_name (ports_tree called n 0 d) (rest q))
  unfolding ports_tokens port_tokens comma_tokens
  ports-yields zero h rest p = absurd (omega arith)
  ports-yields (suc n) h rest p = ports-from n 0 rest p

  -- ---- declarations

  range-yields : (w : ℕ) → 1 ≤ w → (rest : From) (p : ℕ) → (q : ℕ) × (range_tokens w rest p ≡ spell_range (range_of w) (rest q))
  unfolding range_tokens range_of marks spell_range counts
  range-yields w h rest p = by (eqb w 1) refl
    where
      long : 1 ≤ w - 1 → (q : ℕ) × (marks "[" (counts (w - 1) (marks ":" (counts 0 (spaced "]" rest)))) p
          ≡ spell_range (down_to true (w - 1) false) (rest q))
      long k =
          let x = counted-at (w - 1) k (marks ":" (counts 0 (spaced "]" rest))) (p + length (ascii "[")) in
          let y = spaced-at "]" rest (x.0 + length (ascii ":") + length (decimal 0)) in (
            y.0,
            ap (λ (l : List Token). mark "[" ∷ l)
                (x.1 ∙ ap (λ (l : List Token). number true (w - 1) ∷ mark ":" ∷ number false 0 ∷ l) y.1),
          )

      by : (t : Bool) → eqb w 1 ≡ t
          → (q : ℕ) × (pick t rest (marks "[" (counts (w - 1) (marks ":" (counts 0 (spaced "]" rest))))) p
          ≡ spell_range (pick t no_range (down_to true (w - 1) false)) (rest q))
      by true e = (p, refl)
      by false e = long (let z = eqb-false w 1 e in some_more w h z)
        where
          some_more : (n : ℕ) → 1 ≤ n → (n ≡ 1 → ⊥) → 1 ≤ n - 1
          some_more zero l z = absurd (omega arith)
          some_more (suc zero) l z = absurd (z refl)
          some_more (suc (suc n)) l z = omega arith

  -- A word, a range, a name.
  declared : (s : String) (w : ℕ) → 1 ≤ w → (v : ℕ) (rest : From) (p : ℕ)
      → (d : ℕ) × (q : ℕ) × (spaced s (range_tokens w (names (called v) (ended rest))) p
      ≡ spell_declared s (range_of w) (one (name_at called d v)) (rest q))
  unfolding names spell_declared spell_listed spell_name
  declared s w h v rest p =
      let x = spaced-at s (range_tokens w (names (called v) (ended rest))) p in
      let y = range-yields w h (names (called v) (ended rest)) x.0 in
      let z = ended_at rest (y.0 + length (called v)) in (
        y.0,
        z.0,
        x.1 ∙ ap (λ (l : List Token). mark s ∷ l)
            (y.1 ∙ ap (λ (l : List Token). spell_range (range_of w) (name (name_at called y.0 v) ∷ l)) z.1),
      )

  declaration-yields : (i r v w : ℕ) → 1 ≤ w → (rest : From) (p : ℕ)
      → (d : ℕ) × (q : ℕ) × (declaration_tokens called i r v w rest p
      ≡ spell_part (declaration_tree called i r v w (name_at called d v)) (rest q))
  unfolding declaration_tokens direction_tokens declaration_tree indented blanks spell_part
  declaration-yields i r v w h rest p = by (ltb v i) (ltb v (i + r))
    where
      inner : From
      inner = range_tokens w (names (called v) (ended rest))

      by : (x y : Bool)
          → (d : ℕ) × (q : ℕ) × (pick x (spaced "input" inner) (pick y (spaced "reg" inner) (spaced "wire" inner)) (p + 2 * 1)
          ≡ spell_part (pick x (input (range_of w) (one (name_at called d v)))
          (pick y (reg (range_of w) (one (name_at called d v))) (wire (range_of w) (one (name_at called d v))))) (rest q))
      by true y = declared "input" w h v rest (p + 2 * 1)
      by false true = declared "reg" w h v rest (p + 2 * 1)
      by false false = declared "wire" w h v rest (p + 2 * 1)

  declarations-yield : (i r v : ℕ) (ws : List ℕ) → AreWidths ws → (rest : From) (p : ℕ)
      → (d : Each InWidth ws) × (q : ℕ) × ((xs : List Item) → rest q ≡ spell_parts xs []
      → declarations_tokens called i r v ws rest p ≡ spell_parts (declaration_trees called i r v ws d xs) [])
  unfolding AreWidths declarations_tokens declaration_trees spell_parts
  declarations-yield i r v [] h rest p = (tt, p, λ xs e. e)
  declarations-yield i r v (w ∷ ws) h rest p =
      let x = declaration-yields i r v w h.0.0 (declarations_tokens called i r (v + 1) ws rest) p in
      let y = declarations-yield i r (v + 1) ws h.1 rest x.1 in (
        (x.0, y.0),
        y.1,
        λ xs e. x.2 ∙ ap (λ (l : List Token). spell_part (declaration_tree called i r v w (name_at called x.0 v)) l) (y.2 xs e),
      )

  -- ---- wires

  wires-yield : (us : Scope) → us.declared ≡ 0 → (v : ℕ) (es : List Expr) → WiresFit us v es → (rest : From) (p : ℕ)
      → (d : Each InWire es) × (q : ℕ) × ((xs : List Item) → rest q ≡ spell_parts xs []
      → wires_tokens called v es rest p ≡ spell_parts (wire_trees called v es d xs) [])
  unfolding WiresFit wires_tokens wire_trees spell_parts spell_part spell_listed spell_net spell indented blanks
  wires-yield us uncalled v [] h rest p = (tt, p, λ xs e. e)
  wires-yield us uncalled v (e ∷ es) h rest p =
      let after = wires_tokens called (v + 1) es rest in
      let s = spaced-at "assign" (names (called v) (between "=" (expr_tokens called e (ended after)))) (p + 2 * 1) in
      let x = assigned "=" us uncalled e _ h.0 v after s.0 in
      let y = wires-yield us uncalled (v + 1) es h.1 rest x.1 in
      let n = name_at called s.0 v in (
        ((s.0, x.0), y.0),
        y.1,
        λ xs q. s.1 ∙ ap (λ (l : List Token). mark "assign" ∷ l)
            (x.2 ∙ ap (λ (l : List Token). name n ∷ mark "=" ∷ spell_primary (primary_tree called e x.0) (mark ";" ∷ l)) (y.2 xs q)),
      )

  -- ---- threads

  -- In a block.
  block-yields : (a : Stmt Expr) → Yields a → (rest : From) (p : ℕ)
      → (d : InStmt a) × (q : ℕ) × (indented 1 (spaced "always" (spaced "begin" (stmt_tokens called 2 a (closed 1 rest)))) p
      ≡ mark "always" ∷ mark "begin" ∷ spell_all (within called a d) (rest q))
  unfolding indented blanks
  block-yields a h rest p =
      let inner = stmt_tokens called 2 a (closed 1 rest) in
      let s = spaced-at "always" (spaced "begin" inner) (p + 2 * 1) in
      let u = spaced-at "begin" inner s.0 in
      let x = in_block a h 2 1 rest u.0 in (
        x.0,
        x.1,
        s.1 ∙ ap (λ (l : List Token). mark "always" ∷ l) (u.1 ∙ ap (λ (l : List Token). mark "begin" ∷ l) x.2),
      )

  -- Behind the wait that it opens with.
  waiting-yields : (ts : List EdgeTerm) (b : Stmt Expr) → 1 ≤ length ts → Yields b → (rest : From) (p : ℕ)
      → (d : Each InTerm ts) × (e : InStmt b) × (q : ℕ)
      × (indented 1 (spaced "always" (marks "@" (marks "(" (terms_tokens called 0 ts (opened (stmt_tokens called 2 b (closed 1 rest))))))) p
      ≡ mark "always" ∷ mark "@" ∷ mark "(" ∷ spell_event (terms_tree called ts d)
      (mark ")" ∷ mark "begin" ∷ spell_all (within called b e) (rest q)))
  unfolding indented blanks marks
  waiting-yields ts b w k rest p =
      let inner = stmt_tokens called 2 b (closed 1 rest) in
      let s = spaced-at "always" (marks "@" (marks "(" (terms_tokens called 0 ts (opened inner)))) (p + 2 * 1) in
      let t = terms-yields ts w (opened inner) (s.0 + length (ascii "@") + length (ascii "(")) in
      let o = opened-at inner t.1 in
      let x = in_block b k 2 1 rest o.0 in (
        t.0,
        x.0,
        x.1,
        s.1 ∙ ap (λ (l : List Token). mark "always" ∷ mark "@" ∷ mark "(" ∷ l)
            (t.2 ∙ ap (λ (l : List Token). spell_event (terms_tree called ts t.0) l)
            (o.1 ∙ ap (λ (l : List Token). mark ")" ∷ mark "begin" ∷ l) x.2)),
      )

  opened-yields : (a b : Stmt Expr) → ((ts : List EdgeTerm) → a ≡ wait ts → 1 ≤ length ts) → Yields (sequence a b) → Yields b
      → (rest : From) (p : ℕ) → (d : InStmt (sequence a b)) × (q : ℕ)
      × (opened_tokens called (front a) (λ l k. stmt_tokens called l (sequence a b) k) (λ l k. stmt_tokens called l b k) rest p
      ≡ mark "always" ∷ spell_statement
      (opened_tree called a d.0 (within called b d.1) (block (within called (sequence a b) d))) (rest q))
  unfolding opened_tokens front opened_tree spell_statement spell_control spell_or_null
  opened-yields empty b w h k rest p = block-yields (sequence empty b) h rest p
  opened-yields (assigns t e) b w h k rest p = block-yields (sequence (assigns t e) b) h rest p
  opened-yields (later t e) b w h k rest p = block-yields (sequence (later t e) b) h rest p
  opened-yields (sequence a c) b w h k rest p = block-yields (sequence (sequence a c) b) h rest p
  opened-yields (if_then e a) b w h k rest p = block-yields (sequence (if_then e a) b) h rest p
  opened-yields (if_else e a c) b w h k rest p = block-yields (sequence (if_else e a c) b) h rest p
  opened-yields (while e a) b w h k rest p = block-yields (sequence (while e a) b) h rest p
  opened-yields (forever a) b w h k rest p = block-yields (sequence (forever a) b) h rest p
  opened-yields (wait ts) b w h k rest p =
      let x = waiting-yields ts b (w ts refl) k rest p in
      ((x.0, x.1), x.2, x.3)

  thread-yields : (c : Scope) → c.declared ≡ 0 → (k : ℕ) (a : Stmt Expr) → WellBuilt c (suc k) a → (rest : From) (p : ℕ)
      → (d : InStmt a) × (q : ℕ) × (thread_tokens called a rest p ≡ mark "always" ∷ spell_statement (thread_tree called a d) (rest q))
  unfolding WellBuilt thread_tokens opened_tokens opening remainder thread_tree spell_statement
  thread-yields c uncalled k empty t rest p = block-yields empty (stmt-yields c uncalled (suc k) empty t) rest p
  thread-yields c uncalled k (assigns v e) t rest p = block-yields (assigns v e) (stmt-yields c uncalled (suc k) (assigns v e) t) rest p
  thread-yields c uncalled k (later v e) t rest p = block-yields (later v e) (stmt-yields c uncalled (suc k) (later v e) t) rest p
  thread-yields c uncalled k (if_then e a) t rest p = block-yields (if_then e a) (stmt-yields c uncalled (suc k) (if_then e a) t) rest p
  thread-yields c uncalled k (if_else e a b) t rest p = block-yields (if_else e a b) (stmt-yields c uncalled (suc k) (if_else e a b) t) rest p
  thread-yields c uncalled k (while e a) t rest p = block-yields (while e a) (stmt-yields c uncalled (suc k) (while e a) t) rest p
  thread-yields c uncalled k (forever a) t rest p = block-yields (forever a) (stmt-yields c uncalled (suc k) (forever a) t) rest p
  thread-yields c uncalled k (wait ts) t rest p = block-yields (wait ts) (stmt-yields c uncalled (suc k) (wait ts) t) rest p
  thread-yields c uncalled k (sequence a b) t rest p =
      opened-yields a b (wait-terms c k a t.0) (stmt-yields c uncalled (suc k) (sequence a b) t) (stmt-yields c uncalled k b t.1) rest p

  threads-yield : (c : Scope) → c.declared ≡ 0 → (bs : List (Stmt Expr)) → ThreadsFit c bs → (p : ℕ)
      → (d : Each InStmt bs) × (threads_tokens called bs (spaced "endmodule" nothing) p ≡ spell_parts (thread_trees called bs d) [])
  unfolding ThreadsFit threads_tokens thread_trees spell_parts spell_part nothing
  threads-yield c uncalled [] h p = (tt, (spaced-at "endmodule" nothing p).1)
  threads-yield c uncalled (a ∷ bs) h p =
      let after = threads_tokens called bs (spaced "endmodule" nothing) in
      let x = thread-yields c uncalled 63 a h.0 after p in
      let y = threads-yield c uncalled bs h.2 x.1 in
      ((x.0, y.0), x.2 ∙ ap (λ (l : List Token). mark "always" ∷ spell_statement (thread_tree called a x.0) l) y.1)

  -- ---- the module

  pub module-yields : (m : Module Expr) → WellFormed m → (d : InModule m) × (module_tokens called m nothing 0 ≡ yield (tree_of called m d))
  unfolding module_tokens names marks blanks tree_of yield
  module-yields m f =
      let c = m.scope in
      let uncalled = f.plain.0 in
      let threads = threads_tokens called m.threads (spaced "endmodule" nothing) in
      let wires = wires_tokens called (c.inputs + c.registers) m.wires threads in
      let items = declarations_tokens called c.inputs c.registers 0 c.widths wires in
      let inner = ports_tokens called c.inputs 0 (marks ")" (ended items)) in
      let s = spaced-at "module" (names (ascii "walbryts") (blanks 1 (marks "(" inner))) 0 in
      let x = ports-yields c.inputs f.inputs.0 (marks ")" (ended items))
      (s.0 + length (ascii "walbryts") + 1 + length (ascii "(")) in
      let u = ended_at items (x.1 + length (ascii ")")) in
      let a = declarations-yield c.inputs c.registers 0 c.widths f.widths wires u.0 in
      let b = wires-yield c uncalled (c.inputs + c.registers) m.wires f.wired threads a.1 in
      let t = threads-yield c uncalled m.threads f.threaded b.1 in
      let e = a.2 _ (b.2 _ t.1) in (
        record { title = s.0; ports = x.0; widths = a.0; wires = b.0; threads = t.0 },
        s.1 ∙ ap (λ (l : List Token). mark "module" ∷ name (record { place = s.0; spelled = ascii "walbryts" }) ∷ mark "(" ∷ l)
            (x.2 ∙ ap (λ (l : List Token). spell_listed spell_name (ports_tree called c.inputs 0 x.0) (mark ")" ∷ l))
            (u.1 ∙ ap (λ (l : List Token). mark ";" ∷ l) e)),
      )
