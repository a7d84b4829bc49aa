-- Every name of the derivation but the module's is that of a variable.
-- Assumes nothing.
use mathlib.Core.Path.{◌≡◌, refl}
use mathlib.Core.Bool.{Bool, true, false}
use mathlib.Core.List.{List, [], ◌∷◌}
use Prim.Native.Nat.{ℕ, zero, suc, ◌+◌, ◌≤◌, ◌<◌}
use native.Mathlib.Omega.{arith}
use lib.Dec.{ltb}
use lib.ListN.{length}
use Rattle.values.specs.Values.{pick}
use Rattle.values.specs.declared.Edge.{Edge}
use Rattle.values.specs.declared.Edge.TheVariants.{Change, Posedge, Negedge}
use Rattle.sheet.specs.declared.EdgeTerm.{EdgeTerm}
use Rattle.sheet.specs.Expression.{Expr, variable, constant, unknown, unary, binary, conditional, call, Scope}
use Rattle.sheet.specs.Statement.{Stmt, empty, assign as assigns, later, sequence, if_then, if_else, while, forever, wait}
use Rattle.sheet.specs.Module.{Module}
use Rattle.encoding.specs.WellFormed.{WellTyped, IsTarget, IsAssignment, PairsFit, WellBuilt, WiresFit, ThreadsFit, WellFormed}
use Rattle.verilog_tokens.specs.Tokens.{Token, terminal, name, number, known, unknown as unvalued, Name}
use Rattle.verilog_tokens.specs.Table.{name_in, names_in}
use Rattle.verilog_grammar.specs.AnnexA.{mark, spell_number, spell, spell_primary, spell_event, spell_control, Statement, block, Statements, spell_condition, spell_statement, spell_or_null, spell_all}
use Rattle.verilog_grammar.specs.AnnexA.{one, spell_listed, spell_name, Range, no_range, down_to, spell_range, spell_net, Item, input, reg, wire, spell_declared, spell_part, spell_parts, yield}
use Rattle.verilog_source.specs.Names.{is_among, missing, used}
use Rattle.verilog_back.specs.Tree.{Each, InExpr, InTerm, InWidth, InStmt, InWire, InPorts, InModule, range_of, name_at, primary_tree, term_tree, terms_tree, sequence_tree, alone, within, opened_tree, thread_tree, ports_tree, declaration_tree, thread_trees, wire_trees, declaration_trees, tree_of}

module _ (called : ℕ → List ℕ) (ns : List Name) (c : Scope)
    (found : (p v : ℕ) → v < length c.widths → is_among ns (name_at called p v) ≡ true) where
  -- Tokens whose names are those of variables.
  data Named : List Token → Type 0 where
    end : Named []
    here : {p v : ℕ} {rest : List Token} → v < length c.widths → Named rest → Named (name (name_at called p v) ∷ rest)
    sign : {s : List ℕ} {rest : List Token} → Named rest → Named (terminal s ∷ rest)
    count : {b : Bool} {n : ℕ} {rest : List Token} → Named rest → Named (number b n ∷ rest)
    value : {n : ℕ} {rest : List Token} → Named rest → Named (known n ∷ rest)
    valueless : {rest : List Token} → Named rest → Named (unvalued ∷ rest)

  none-missing : {ts : List Token} → Named ts → missing (names_in ts) ns ≡ []
  unfolding names_in name_in missing
  none-missing end = refl
  none-missing (here {p = p} {v = v} h n) = rw (found p v h) (none-missing n)
  none-missing (sign n) = none-missing n
  none-missing (count n) = none-missing n
  none-missing (value n) = none-missing n
  none-missing (valueless n) = none-missing n

  expr-named : (k : ℕ) (e : Expr) (w : ℕ) → WellTyped c k e w → (d : InExpr e) (rest : List Token) → Named rest
      → Named (spell_primary (primary_tree called e d) rest)
  unfolding WellTyped primary_tree spell_primary spell spell_number
  expr-named zero e w t d rest h = absurd t
  expr-named (suc k) (variable v) w t d rest h = here t.0 h
  expr-named (suc k) (constant l v) w t d rest h = count (value h)
  expr-named (suc k) (unknown l) w t d rest h = count (valueless h)
  expr-named (suc k) (unary o l a) w t d rest h = sign (sign (expr-named k a l t.1 d _ (sign h)))
  expr-named (suc k) (binary o l a b) w t d rest h =
      sign (expr-named k a l t.1 d.0 _ (sign (expr-named k b l t.2 d.1 _ (sign h))))
  expr-named (suc k) (conditional a x y) w t d rest h =
      sign
      (expr-named k a t.0.0 t.0.1 d.0 _
      (sign (expr-named k x w t.1 d.1 _ (sign (expr-named k y w t.2 d.2 _ (sign h))))))
  expr-named (suc k) (call n l ys b) w t d rest h = absurd d

  term-named : (e : Edge) (p v : ℕ) (rest : List Token) → v < length c.widths → Named rest
      → Named (spell_event (term_tree called e (name_at called p v)) rest)
  unfolding term_tree spell_event
  term-named Change p v rest h k = here h k
  term-named Posedge p v rest h k = sign (here h k)
  term-named Negedge p v rest h k = sign (here h k)

  terms-named : (ts : List EdgeTerm) (d : Each InTerm ts) (rest : List Token) → 1 ≤ length ts → PairsFit c.widths ts → Named rest
      → Named (spell_event (terms_tree called ts d) rest)
  unfolding terms_tree spell_event PairsFit
  terms-named [] d rest l t h = absurd (omega arith)
  terms-named (t ∷ []) d rest l f h = term-named t.edge d.0 t.variable rest f.0 h
  terms-named (t ∷ u ∷ ts) d rest l f h =
      term-named t.edge d.0 t.variable _ f.0 (sign (terms-named (u ∷ ts) d.1 rest (omega arith) f.2 h))

  -- ---- statements

  unfoldable Whole : Statement → Type 0
  Whole x = (rest : List Token) → Named rest → Named (spell_statement x rest)

  unfoldable Parts : Statements → Type 0
  Parts xs = (rest : List Token) → Named rest → Named (spell_all xs rest)

  sequence-named : (k : ℕ) (a : Stmt Expr) → WellBuilt c k a → (d : InStmt a) (x : Statement) (ys : Statements) → Whole x → Parts ys
      → Parts (sequence_tree called a d x ys)
  unfolding WellBuilt Whole Parts sequence_tree spell_all spell_statement spell_control spell_or_null
  sequence-named zero a t d x ys h k rest q = absurd t
  sequence-named (suc n) empty t d x ys h k rest q = h _ (k rest q)
  sequence-named (suc n) (assigns v e) t d x ys h k rest q = h _ (k rest q)
  sequence-named (suc n) (later v e) t d x ys h k rest q = h _ (k rest q)
  sequence-named (suc n) (sequence a b) t d x ys h k rest q = h _ (k rest q)
  sequence-named (suc n) (if_then e a) t d x ys h k rest q = h _ (k rest q)
  sequence-named (suc n) (if_else e a b) t d x ys h k rest q = h _ (k rest q)
  sequence-named (suc n) (while e a) t d x ys h k rest q = h _ (k rest q)
  sequence-named (suc n) (forever a) t d x ys h k rest q = h _ (k rest q)
  sequence-named (suc n) (wait ts) t d x ys h k rest q = sign (sign (terms-named ts d _ t.0.0 t.1 (sign (sign (k _ (sign q))))))

  module _ (bound : c.inputs + c.registers ≤ length c.widths) where
    set-named : (v : ℕ) (e : Expr) → IsAssignment c v e → (p : ℕ) (d : InExpr e) (s t : List ℕ) (rest : List Token) → Named rest
        → Named (name (name_at called p v) ∷ terminal s ∷ spell_primary (primary_tree called e d) (terminal t ∷ rest))
    unfolding IsAssignment IsTarget
    set-named v e a p d s t rest h =
        let z = a.0.1 in
        here {v = v} (omega arith) (sign (expr-named 16 e _ a.1 d _ (sign h)))

    mutual
      unfolding WellBuilt Whole Parts alone within spell_statement spell_all spell_or_null spell_control spell_condition spell

      alone-named : (k : ℕ) (a : Stmt Expr) → WellBuilt c k a → (d : InStmt a) → Whole (alone called a d)
      alone-named zero a t d rest h = absurd t
      alone-named (suc k) empty t d rest h = sign (sign h)
      alone-named (suc k) (assigns v e) t d rest h = set-named v e t d.0 d.1 _ _ rest h
      alone-named (suc k) (later v e) t d rest h = set-named v e t d.0 d.1 _ _ rest h
      alone-named (suc k) (sequence a b) t d rest h =
          sign
          (sequence-named k a t.0 d.0 (alone called a d.0) (within called b d.1)
          (λ r q. alone-named k a t.0 d.0 r q)
          (λ r q. within-named k b t.1 d.1 r q)
          rest
          h)
      alone-named (suc k) (if_then e a) t d rest h =
          sign (sign (expr-named 16 e t.0.0 t.0.1 d.0 _ (sign (sign (within-named k a t.1 d.1 rest h)))))
      alone-named (suc k) (if_else e a b) t d rest h =
          sign (sign (expr-named 16 e t.0.0 t.0.1 d.0 _
          (sign (sign (within-named k a t.1 d.1 _ (sign (sign (within-named k b t.2 d.2 rest h))))))))
      alone-named (suc k) (while e a) t d rest h =
          sign (sign (expr-named 16 e t.0.0 t.0.1 d.0 _ (sign (sign (within-named k a t.1 d.1 rest h)))))
      alone-named (suc k) (forever a) t d rest h = sign (sign (within-named k a t d rest h))
      alone-named (suc k) (wait ts) t d rest h = sign (sign (terms-named ts d _ t.0.0 t.1 (sign (sign h))))

      within-named : (k : ℕ) (a : Stmt Expr) → WellBuilt c k a → (d : InStmt a) → Parts (within called a d)
      within-named zero a t d rest h = absurd t
      within-named (suc k) empty t d rest h = sign (sign (sign h))
      within-named (suc k) (assigns v e) t d rest h = set-named v e t d.0 d.1 _ _ _ (sign h)
      within-named (suc k) (later v e) t d rest h = set-named v e t d.0 d.1 _ _ _ (sign h)
      within-named (suc k) (sequence a b) t d rest h =
          sequence-named k a t.0 d.0 (alone called a d.0) (within called b d.1)
          (λ r q. alone-named k a t.0 d.0 r q)
          (λ r q. within-named k b t.1 d.1 r q)
          rest
          h
      within-named (suc k) (if_then e a) t d rest h =
          sign (sign (expr-named 16 e t.0.0 t.0.1 d.0 _ (sign (sign (within-named k a t.1 d.1 _ (sign h))))))
      within-named (suc k) (if_else e a b) t d rest h =
          sign (sign (expr-named 16 e t.0.0 t.0.1 d.0 _
          (sign (sign (within-named k a t.1 d.1 _ (sign (sign (within-named k b t.2 d.2 _ (sign h)))))))))
      within-named (suc k) (while e a) t d rest h =
          sign (sign (expr-named 16 e t.0.0 t.0.1 d.0 _ (sign (sign (within-named k a t.1 d.1 _ (sign h))))))
      within-named (suc k) (forever a) t d rest h = sign (sign (within-named k a t d _ (sign h)))
      within-named (suc k) (wait ts) t d rest h = sign (sign (terms-named ts d _ t.0.0 t.1 (sign (sign (sign h)))))

    -- ---- the module's parts

    opened-named : (k : ℕ) (a b : Stmt Expr) → WellBuilt c (suc k) (sequence a b) → (d : InStmt (sequence a b))
        → Whole (opened_tree called a d.0 (within called b d.1) (block (within called (sequence a b) d)))
    unfolding WellBuilt Whole opened_tree spell_statement spell_control spell_or_null Parts
    opened-named k empty b t d rest h = sign (within-named (suc k) (sequence empty b) t d rest h)
    opened-named k (assigns v e) b t d rest h = sign (within-named (suc k) (sequence (assigns v e) b) t d rest h)
    opened-named k (later v e) b t d rest h = sign (within-named (suc k) (sequence (later v e) b) t d rest h)
    opened-named k (sequence a c) b t d rest h = sign (within-named (suc k) (sequence (sequence a c) b) t d rest h)
    opened-named k (if_then e a) b t d rest h = sign (within-named (suc k) (sequence (if_then e a) b) t d rest h)
    opened-named k (if_else e a c) b t d rest h = sign (within-named (suc k) (sequence (if_else e a c) b) t d rest h)
    opened-named k (while e a) b t d rest h = sign (within-named (suc k) (sequence (while e a) b) t d rest h)
    opened-named k (forever a) b t d rest h = sign (within-named (suc k) (sequence (forever a) b) t d rest h)
    opened-named zero (wait ts) b t d rest h = absurd t.0
    opened-named (suc k) (wait ts) b t d rest h =
        sign (sign (terms-named ts d.0 _ t.0.0.0 t.0.1 (sign (sign (within-named (suc k) b t.1 d.1 rest h)))))

    thread-named : (k : ℕ) (a : Stmt Expr) → WellBuilt c (suc k) a → (d : InStmt a) → Whole (thread_tree called a d)
    unfolding Whole thread_tree spell_statement Parts
    thread-named k empty t d rest h = sign (within-named (suc k) empty t d rest h)
    thread-named k (assigns v e) t d rest h = sign (within-named (suc k) (assigns v e) t d rest h)
    thread-named k (later v e) t d rest h = sign (within-named (suc k) (later v e) t d rest h)
    thread-named k (if_then e a) t d rest h = sign (within-named (suc k) (if_then e a) t d rest h)
    thread-named k (if_else e a b) t d rest h = sign (within-named (suc k) (if_else e a b) t d rest h)
    thread-named k (while e a) t d rest h = sign (within-named (suc k) (while e a) t d rest h)
    thread-named k (forever a) t d rest h = sign (within-named (suc k) (forever a) t d rest h)
    thread-named k (wait ts) t d rest h = sign (within-named (suc k) (wait ts) t d rest h)
    thread-named k (sequence a b) t d rest h = opened-named k a b t d rest h

    threads-named : (bs : List (Stmt Expr)) → ThreadsFit c bs → (d : Each InStmt bs) → Named (spell_parts (thread_trees called bs d) [])
    unfolding ThreadsFit thread_trees spell_parts spell_part Whole
    threads-named [] t d = sign end
    threads-named (a ∷ bs) t d = sign (thread-named 63 a t.0 d.0 _ (threads-named bs t.2 d.1))

    wires-named : (v : ℕ) (es : List Expr) → WiresFit c v es → v + length es ≤ length c.widths → (d : Each InWire es)
        (xs : List Item) → Named (spell_parts xs []) → Named (spell_parts (wire_trees called v es d xs) [])
    unfolding WiresFit wire_trees spell_parts spell_part spell_listed spell_net spell
    wires-named v [] t l d xs h = h
    wires-named v (e ∷ es) t l d xs h =
        sign
        (here {v = v} (omega arith)
        (sign (expr-named 16 e _ t.0 d.0.1 _ (sign (wires-named (v + 1) es t.1 (omega arith) d.1 xs h)))))

  range-named : (r : Range) (rest : List Token) → Named rest → Named (spell_range r rest)
  unfolding spell_range
  range-named no_range rest h = h
  range-named (down_to a n b) rest h = sign (count (sign (count (sign h))))

  declaration-named : (i r v w p : ℕ) (rest : List Token) → v < length c.widths → Named rest
      → Named (spell_part (declaration_tree called i r v w (name_at called p v)) rest)
  unfolding declaration_tree spell_part spell_declared spell_listed spell_name
  declaration-named i r v w p rest l h = by (ltb v i) (ltb v (i + r))
    where
      by : (x y : Bool) → Named (spell_part (pick x (input (range_of w) (one (name_at called p v)))
          (pick y (reg (range_of w) (one (name_at called p v))) (wire (range_of w) (one (name_at called p v))))) rest)
      by true y = sign (range-named (range_of w) (name (name_at called p v) ∷ mark ";" ∷ rest) (here l (sign h)))
      by false true = sign (range-named (range_of w) (name (name_at called p v) ∷ mark ";" ∷ rest) (here l (sign h)))
      by false false = sign (range-named (range_of w) (name (name_at called p v) ∷ mark ";" ∷ rest) (here l (sign h)))

  declarations-named : (i r v : ℕ) (ws : List ℕ) → v + length ws ≤ length c.widths → (d : Each InWidth ws) (xs : List Item)
      → Named (spell_parts xs []) → Named (spell_parts (declaration_trees called i r v ws d xs) [])
  unfolding declaration_trees spell_parts
  declarations-named i r v [] l d xs h = h
  declarations-named i r v (w ∷ ws) l d xs h =
      declaration-named i r v w d.0 _ (omega arith) (declarations-named i r (v + 1) ws (omega arith) d.1 xs h)

  ports-named : (n v : ℕ) (d : InPorts n) (rest : List Token) → 1 ≤ n → v + n ≤ length c.widths → Named rest
      → Named (spell_listed spell_name (ports_tree called n v d) rest)
  unfolding ports_tree spell_listed spell_name
  ports-named zero v d rest k l h = absurd (omega arith)
  ports-named (suc zero) v d rest k l h = here {v = v} (omega arith) h
  ports-named (suc (suc n)) v d rest k l h =
      here {v = v} (omega arith) (sign (ports-named (suc n) (v + 1) d.1 rest (omega arith) (omega arith) h))

-- ---- all together

pub all_named : (called : ℕ → List ℕ) (ns : List Name) (m : Module Expr)
    → ((p v : ℕ) → v < length m.scope.widths → is_among ns (name_at called p v) ≡ true) → WellFormed m → (d : InModule m)
    → missing (used (yield (tree_of called m d))) ns ≡ []
unfolding used yield tree_of
all_named called ns m found f d =
    let c = m.scope in
    let l = f.variables in
    let bound : c.inputs + c.registers ≤ length c.widths = omega arith in
    none-missing called ns c found
    (sign
    (ports-named called ns c found c.inputs 0 d.ports _ f.inputs.0 (omega arith)
    (sign
    (sign
    (declarations-named called ns c found c.inputs c.registers 0 c.widths (omega arith) d.widths _
    (wires-named called ns c found bound (c.inputs + c.registers) m.wires f.wired (omega arith) d.wires _
    (threads-named called ns c found bound m.threads f.threaded d.threads)))))))
