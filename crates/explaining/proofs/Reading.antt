-- Where a statement was read, the text over its bytes is that of its tree.
use mathlib.Core.Path.{◌≡◌, refl, sym, ap, ◌∙◌}
use Prim.Native.Nat.{ℕ, zero, suc, ◌+◌, ◌*◌, ◌≤◌}
use native.Mathlib.Omega.{arith}
use mathlib.Core.Bool.{Bool, true, false, not, ◌&&◌, ◌||◌}
use mathlib.Core.List.{List, ◌++◌, append_assoc}
use lib.ListN.{length, get_or}
use lib.Dec.{eqb}
use Rattle.values.specs.Values.{pick}
use Rattle.sheet.specs.declared.EdgeTerm.{EdgeTerm}
use Rattle.sheet.specs.Reading.{ok}
use Rattle.sheet.specs.Expression.{Expr, Scope, Parsed, tree}
use Rattle.sheet.specs.Statement.{an_empty, an_assign, a_later, a_sequence, an_if, an_if_else, a_while, a_forever, a_wait}
use Rattle.sheet.specs.Statement.{forever, Body}
use Rattle.sheet.proofs.Expression.{derive}
use Rattle.sheet.proofs.Statements.{ReadsTerms, form_map}
use Rattle.sheet.proofs.Statements.{ReadsStmt, an-empty, an-assign, a-later, a-sequence, an-if, an-if-else, a-while, a-forever, a-wait}
use Rattle.pseudocode.specs.Skipping.{skip_at}
use Rattle.pseudocode.specs.Filling.{after}
use Rattle.pseudocode.proofs.Skipping.{Counted, skip-reads}
use Rattle.writing.specs.Ascii.{ascii}
use Rattle.writing.specs.Numbers.{decimal}
use Rattle.writing.specs.Buffer.{Text, puts}
use Rattle.writing.proofs.Buffer.{puts-append}
use Rattle.verilog.specs.Verilog.{◌&◌, indent, expr_text}
use Rattle.verilog.specs.Printing.{Shown, shown, shown_at}
use Rattle.verilog.proofs.Reading.{shown-reads, terms-reads}
use Rattle.explaining.specs.Explaining.{counted, Ahead, nothing, both, when, choice, stop, stopping, joined, going}
use Rattle.explaining.specs.Explaining.{Search, absent, found, followed, first, behind as remaining, ahead, heading_text}
use Rattle.explaining.specs.Explaining.{ahead_text, search_text, point_text, points_text, thread_text}
use Rattle.explaining.specs.Walking.{Stage, stage, said, deeper, inside, round_at, anew, closed, switched}
use Rattle.explaining.specs.Walking.{sequence_at, forever_at, if_at, if_else_at, while_at}
use Rattle.explaining.specs.Walking.{assign_line, condition_line, wait_line}
use Rattle.explaining.specs.Walking.{assign_at, condition_at, wait_at, form_at, stmt_at}
use Rattle.explaining.specs.Walking.{point_at, points_at, thread_at}
use Rattle.explaining.proofs.Walking.{stmt-at}

-- ---- texts put one after the other

puts-three : (t : Text) (a b c : List ℕ) → puts (puts (puts t a) b) c ≡ puts t (a ++ (b ++ c))
puts-three t a b c = sym (puts-append t a (b ++ c) ∙ puts-append (puts t a) b c)

puts-five : (t : Text) (a b c d e : List ℕ) → puts (puts (puts (puts (puts t a) b) c) d) e ≡ puts t ((a ++ (b ++ c)) ++ (d ++ e))
puts-five t a b c d e = ap (λ (x : Text). puts (puts x d) e) (puts-three t a b c) ∙ puts-three t (a ++ (b ++ c)) d e

-- ---- statements: k is the wait that is looked for

-- Where an expression that was read ends.
pub tree-ends : (c : Scope) (s ds : List ℕ) → length s ≤ 8192 → Counted s ds c.functions → (p : ℕ) {e : Parsed Expr}
    → tree s c p ≡ ok e → skip_at 16 s ds p ≡ e.next
unfolding tree
tree-ends c s ds short known p h = skip-reads c s ds short known (derive c s 16 p h)

module _ (name : ℕ → List ℕ) (c : Scope) (s ds : List ℕ) (short : length s ≤ 8192) (known : Counted s ds c.functions) where
  -- An expression that was read, and where it ends.
  tree-shown : (p : ℕ) {e : Parsed Expr} → tree s c p ≡ ok e
      → shown_at name s ds 16 p ≡ shown e.next (expr_text name e.item)
  unfolding tree
  tree-shown p h = shown-reads name c s ds known (derive c s 16 p h)

  ends : (p q : ℕ) {e : Parsed Expr} → q ≡ p → tree s c p ≡ ok e → skip_at 16 s ds q ≡ e.next
  ends p q x h = ap (skip_at 16 s ds) x ∙ tree-ends c s ds short known p h

  -- ---- lines

  assign-line : (mark : List ℕ) (n p : ℕ) {t : ℕ} {e : Parsed Expr} → get_or s p 0 ≡ t → tree s c (p + 1) ≡ ok e
      → assign_line name s ds mark n p ≡ (indent n & name t & mark & expr_text name e.item & ascii ";\n")
  unfolding assign_line
  assign-line mark n p {t} {e} v h =
      ap (λ (x : Shown). indent n & name (get_or s p 0) & mark & x.text & ascii ";\n") (tree-shown (p + 1) h)
      ∙ ap (λ (x : ℕ). indent n & name x & mark & expr_text name e.item & ascii ";\n") v

  condition-line : (n p : ℕ) {e : Parsed Expr} → tree s c p ≡ ok e
      → condition_line name s ds n p ≡ (indent n & ascii "if (" & expr_text name e.item & ascii ") begin\n")
  unfolding condition_line
  condition-line n p h = ap (λ (x : Shown). indent n & ascii "if (" & x.text & ascii ") begin\n") (tree-shown p h)

  wait-line : (k n p : ℕ) {m : ℕ} {ts : List EdgeTerm} → get_or s p 0 ≡ m → ReadsTerms c.widths s m (p + 1) ts
      → wait_line name s k n p ≡ ahead_text name n (stop k ts)
  unfolding wait_line ahead_text
  wait-line k n p e ts = rw (e, terms-reads name ts 0) refl

  -- ---- a thread that has stopped goes by

  module _ (k : ℕ) where
    pub stopped : {d p : ℕ} {b : Body Expr} → ReadsStmt (tree s) c s d p b → (level n : ℕ) (t : Text)
        → stmt_at name s ds k d level (stage p n true false t) ≡ stage b.next (counted n b.stmt) true false t
    unfolding form_at inside form_map counted assign_at said sequence_at if_at closed if_else_at switched while_at forever_at round_at deeper condition_at wait_at
    stopped {p = p} (an-empty {d = d} l m) level n t = stmt-at name s ds k level (stage p n true false t) d an_empty (omega arith) m
    stopped {p = p} (an-assign {d = d} l m v r e w) level n t =
        stmt-at name s ds k level (stage p n true false t) d an_assign (omega arith) m
        ∙ ap (λ (x : ℕ). stage x n true false t) (ends (p + 2) (p + 1 + 1) (omega arith) e)
    stopped {p = p} (a-later {d = d} l m v r e w) level n t =
        stmt-at name s ds k level (stage p n true false t) d a_later (omega arith) m
        ∙ ap (λ (x : ℕ). stage x n true false t) (ends (p + 2) (p + 1 + 1) (omega arith) e)
    stopped {p = p} (a-sequence {d = d} {a = a} l m x y) level n t =
        stmt-at name s ds k level (stage p n true false t) d a_sequence (omega arith) m
        ∙ ap (stmt_at name s ds k d level) (stopped x level n t)
        ∙ stopped y level (counted n a.stmt) t
    stopped {p = p} (an-if {d = d} l m e x) level n t =
        stmt-at name s ds k level (stage p n true false t) d an_if (omega arith) m
        ∙ ap (λ (q : ℕ). closed level false false (stmt_at name s ds k d level (stage q n true false t))) (ends (p + 1) (p + 1) refl e)
        ∙ ap (closed level false false) (stopped x level n t)
    stopped {p = p} (an-if-else {d = d} {a = a} l m e x y) level n t =
        let second : Stage → Stage = λ (w : Stage). closed level false w.on (stmt_at name s ds k d level (switched level false w)) in
        stmt-at name s ds k level (stage p n true false t) d an_if_else (omega arith) m
        ∙ ap (λ (q : ℕ). second (stmt_at name s ds k d level (stage q n true false t))) (ends (p + 1) (p + 1) refl e)
        ∙ ap second (stopped x level n t)
        ∙ ap (closed level false false) (stopped y level (counted n a.stmt) t)
    stopped {p = p} (a-while {d = d} l m e x) level n t =
        let again : Stage → Stage = λ (w : Stage). pick (round_at (stage (p + 1) n true false t) w)
        (if_at (condition_at name s ds) (stmt_at name s ds k d) level (anew (stage (p + 1) n true false t) w)) w in
        stmt-at name s ds k level (stage p n true false t) d a_while (omega arith) m
        ∙ ap (λ (q : ℕ). again (closed level false false (stmt_at name s ds k d level (stage q n true false t)))) (ends (p + 1) (p + 1) refl e)
        ∙ ap (λ (w : Stage). again (closed level false false w)) (stopped x level n t)
    stopped {p = p} (a-forever {d = d} l m x) level n t =
        stmt-at name s ds k level (stage p n true false t) d a_forever (omega arith) m
        ∙ stopped x level n t
    stopped {p = p} (a-wait {d = d} m w ts f) level n t =
        let b = w.below in
        let q : p + 1 + 1 ≡ p + 2 = omega arith in
        stmt-at name s ds k level (stage p n true false t) d a_wait (omega arith) m
        ∙ (λ j. stage (q j + 2 * (w.same j)) (after n) true false t)

    -- ---- a thread that goes says what lies ahead

    -- What was said, and whether it goes on behind it.
    abbrev saying : ℕ → ℕ → ℕ → Text → Ahead → Stage
    saying next n level t a = stage next n true (not (stopping a)) (puts t (ahead_text name level a))

    -- One and then the other.
    module _ (f : Stage → Stage) (p q n m level : ℕ) (b : Ahead)
        (rests : (t : Text) → f (stage p n true false t) ≡ stage q m true false t)
        (goes : (t : Text) → f (stage p n true true t) ≡ saying q m level t b) where
      then-goes : (t : Text) (a : Ahead) → f (saying p n level t a) ≡ saying q m level t (joined a b)
      unfolding joined stopping ahead_text
      then-goes t a = by (stopping a) refl
        where
          by : (z : Bool) → stopping a ≡ z
              → f (stage p n true (not z) (puts t (ahead_text name level a))) ≡ saying q m level t (pick z a (both a b))
          by true e =
              rests (puts t (ahead_text name level a))
              ∙ ap (λ (x : Bool). stage q m true (not x) (puts t (ahead_text name level a))) (sym e)
          by false e =
              goes (puts t (ahead_text name level a))
              ∙ (λ j. stage q m true (not (sym e j || stopping b)) (sym (puts-append t (ahead_text name level a)
              (ahead_text name level b)) j))

    -- An if of a body that says a, behind its condition.
    when-said : (next n level : ℕ) (t : Text) (e : Expr) (a : Ahead)
        → closed level true true (saying next n (level + 1) (puts t (indent level & ascii "if (" & expr_text name e & ascii ") begin\n")) a)
        ≡ saying next n level t (when e a)
    unfolding closed said stopping ahead_text
    when-said next n level t e a =
        ap (stage next n true true) (puts-three t _ _ _ ∙ ap (puts t) (simp append_assoc))

    choice-said : (next n level : ℕ) (t : Text) (e : Expr) (a b : Ahead)
        → closed level true (not (stopping a)) (saying next n (level + 1)
        (puts (puts (puts t (indent level & ascii "if (" & expr_text name e & ascii ") begin\n"))
        (ahead_text name (level + 1) a)) (indent level & ascii "end else begin\n")) b)
        ≡ saying next n level t (choice e a b)
    unfolding closed said stopping ahead_text
    choice-said next n level t e a b =
        (λ j. stage next n true (either (stopping a) (stopping b) j) (words j))
      where
        either : (x y : Bool) → (not x || not y) ≡ not (x && y)
        either true y = refl
        either false y = refl

        words : puts (puts (puts (puts (puts t (indent level & ascii "if (" & expr_text name e & ascii ") begin\n"))
            (ahead_text name (level + 1) a)) (indent level & ascii "end else begin\n")) (ahead_text name (level + 1) b))
            (indent level & ascii "end\n")
            ≡ puts t (ahead_text name level (choice e a b))
        words = puts-five t _ _ _ _ _ ∙ ap (puts t) (simp append_assoc)

    -- The part of an if or a while behind its map, by what its body says.
    if-goes : (d p q n m level : ℕ) (a : Ahead) {e : Parsed Expr} → tree s c (p + 1) ≡ ok e
        → ((t : Text) → stmt_at name s ds k d (level + 1) (stage e.next n true true t) ≡ saying q m (level + 1) t a)
        → (t : Text) → if_at (condition_at name s ds) (stmt_at name s ds k d) level (stage (p + 1) n true true t) ≡ saying q m level t (when
        e.item a)
    unfolding if_at deeper condition_at said
    if-goes d p q n m level a {e} h x t =
        (λ j. closed level true true (stmt_at name s ds k d (level + 1) (stage (ends (p + 1) (p + 1) refl h j) n true true
        (puts t (condition-line level (p + 1) h j)))))
        ∙ ap (closed level true true) (x (puts t (indent level & ascii "if (" & expr_text name e.item & ascii ") begin\n")))
        ∙ when-said q m level t e.item a

    pub goes : {d p : ℕ} {b : Body Expr} → ReadsStmt (tree s) c s d p b → (level n : ℕ) (t : Text)
        → stmt_at name s ds k d level (stage p n true true t) ≡ saying b.next (counted n b.stmt) level t (going n b.stmt)
    unfolding form_at inside form_map counted assign_at said sequence_at if_else_at switched while_at forever_at round_at deeper condition_at wait_at going stopping ahead_text puts
    goes {p = p} (an-empty {d = d} l m) level n t = stmt-at name s ds k level (stage p n true true t) d an_empty (omega arith) m
    goes {p = p} (an-assign {d = d} {e = x} l m v r e w) level n t =
        let q : p + 1 + 1 ≡ p + 2 = omega arith in
        stmt-at name s ds k level (stage p n true true t) d an_assign (omega arith) m
        ∙ (λ j. stage (ends (p + 2) (p + 1 + 1) q e j) n true true
        (puts t (assign-line (ascii " = ") level (p + 1) {e = x} v (rw q e) j)))
    goes {p = p} (a-later {d = d} {e = x} l m v r e w) level n t =
        let q : p + 1 + 1 ≡ p + 2 = omega arith in
        stmt-at name s ds k level (stage p n true true t) d a_later (omega arith) m
        ∙ (λ j. stage (ends (p + 2) (p + 1 + 1) q e j) n true true
        (puts t (assign-line (ascii " <= ") level (p + 1) {e = x} v (rw q e) j)))
    goes {p = p} (a-sequence {d = d} {a = a} {b = b} l m x y) level n t =
        stmt-at name s ds k level (stage p n true true t) d a_sequence (omega arith) m
        ∙ ap (stmt_at name s ds k d level) (goes x level n t)
        ∙ then-goes (stmt_at name s ds k d level) a.next b.next (counted n a.stmt) (counted (counted n a.stmt) b.stmt) level
        (going (counted n a.stmt) b.stmt) (λ u. stopped y level (counted n a.stmt) u) (λ u. goes y level (counted n a.stmt) u)
        t (going n a.stmt)
    goes {p = p} (an-if {d = d} {e = e} {a = a} l m h x) level n t =
        stmt-at name s ds k level (stage p n true true t) d an_if (omega arith) m
        ∙ if-goes d p a.next n (counted n a.stmt) level (going n a.stmt) h (λ u. goes x (level + 1) n u) t
    goes {p = p} (an-if-else {d = d} {e = e} {a = a} {b = b} l m h x y) level n t =
        let u = puts t (indent level & ascii "if (" & expr_text name e.item & ascii ") begin\n") in
        let second : Stage → Stage = λ (w : Stage). closed level true w.on (stmt_at name s ds k d (level + 1) (switched level true w)) in
        stmt-at name s ds k level (stage p n true true t) d an_if_else (omega arith) m
        ∙ (λ j. second (stmt_at name s ds k d (level + 1) (stage (ends (p + 1) (p + 1) refl h j) n true true (puts t
        (condition-line level (p + 1) h j)))))
        ∙ ap second (goes x (level + 1) n u)
        ∙ ap (closed level true (not (stopping (going n a.stmt)))) (goes y (level + 1) (counted n a.stmt)
        (puts (puts u (ahead_text name (level + 1) (going n a.stmt))) (indent level & ascii "end else begin\n")))
        ∙ choice-said b.next (counted (counted n a.stmt) b.stmt) level t e.item (going n a.stmt) (going (counted n
        a.stmt) b.stmt)
    goes {p = p} (a-while {d = d} {e = e} {a = a} l m h x) level n t =
        stmt-at name s ds k level (stage p n true true t) d a_while (omega arith) m
        ∙ if-goes d p a.next n (counted n a.stmt) level (going n a.stmt) h (λ u. goes x (level + 1) n u) t
    goes {p = p} (a-forever {d = d} l m x) level n t =
        stmt-at name s ds k level (stage p n true true t) d a_forever (omega arith) m
        ∙ goes x level n t
    goes {p = p} (a-wait {d = d} {ts = vs} m w ts f) level n t =
        let b = w.below in
        let q : p + 1 + 1 ≡ p + 2 = omega arith in
        stmt-at name s ds k level (stage p n true true t) d a_wait (omega arith) m
        ∙ (λ j. stage (q j + 2 * (w.same j)) (after n) true false (puts t (wait-line (after n) level (p + 1) {ts = vs} w.same
        (rw q ts) j)))

    -- ---- a thread whose wait is looked for

    unfoldable pub outcome : ℕ → ℕ → ℕ → Text → Search → Stage
    outcome next n level t absent = stage next n false false t
    outcome next n level t (found a) = saying next n level t a

    -- A loop, whose wait is looked for in it, comes round where the thread goes on behind it.
    module _ (f : Stage → Stage) (p q n m level : ℕ) (b : Ahead)
        (again : (t : Text) → f (stage p n true true t) ≡ saying q m level t b) where
      turn : (t : Text) (a : Ahead) (z : Bool) → stopping a ≡ z
          → pick (not z) (f (stage p n true true (puts t (ahead_text name level a)))) (stage q m true (not z) (puts t
          (ahead_text name level a)))
          ≡ saying q m level t (pick z a (both a b))
      unfolding stopping ahead_text
      turn t a true e = ap (λ (x : Bool). stage q m true (not x) (puts t (ahead_text name level a))) (sym e)
      turn t a false e =
          again (puts t (ahead_text name level a))
          ∙ (λ j. stage q m true (not (sym e j || stopping b)) (sym (puts-append t (ahead_text name level a) (ahead_text name level b)) j))

      turned : (t : Text) (r : Search)
          → pick (round_at (stage p n false false t) (outcome q m level t r)) (f (anew (stage p n false false t) (outcome q m level t r)))
          (outcome q m level t r) ≡ outcome q m level t (followed r b)
      unfolding round_at anew outcome followed joined
      turned t absent = refl
      turned t (found a) = turn t a (stopping a) refl

      comes-round : (t : Text) (r : Search) → f (stage p n false false t) ≡ outcome q m level t r
          → pick (round_at (stage p n false false t) (f (stage p n false false t))) (f (anew (stage p n false false t) (f
          (stage p n false false t))))
          (f (stage p n false false t))
          ≡ outcome q m level t (followed r b)
      comes-round t r h =
          ap (λ (w : Stage). pick (round_at (stage p n false false t) w) (f (anew (stage p n false false t) w)) w) h ∙ turned t r

    -- The end of an if changes nothing of it.
    closed-off : (next n level : ℕ) (t : Text) (r : Search) → closed level false false (outcome next n level t r)
        ≡ outcome next n level t r
    unfolding closed said outcome
    closed-off next n level t absent = refl
    closed-off next n level t (found a) = refl

    -- The second part of a sequence, and the second leg of an if-else, behind what came of the first.
    module _ (f : Stage → Stage) (p q n m level : ℕ) (b : Search)
        (rests : (t : Text) → f (stage p n true false t) ≡ stage q m true false t)
        (finds : (t : Text) → f (stage p n false false t) ≡ outcome q m level t b) where
      then-seeks : (a : Ahead) → ((t : Text) → f (stage p n true true t) ≡ saying q m level t a) → (t : Text) (r : Search)
          → f (outcome p n level t r) ≡ outcome q m level t (first (followed r a) b)
      unfolding outcome followed first
      then-seeks a goes t absent = finds t
      then-seeks a goes t (found z) = then-goes f p q n m level a rests goes t z

      even : (z : Bool) → (z || false) ≡ z
      even true = refl
      even false = refl

      else-seeks : (t : Text) (r : Search)
          → closed level false (outcome p n level t r).on (f (switched level false (outcome p n level t r))) ≡ outcome q m level t
          (first r b)
      unfolding outcome first switched closed said
      else-seeks t absent = ap (closed level false false) (finds t) ∙ closed-off q m level t b
      else-seeks t (found z) =
          ap (closed level false (not (stopping z))) (rests (puts t (ahead_text name level z)))
          ∙ ap (λ (o : Bool). stage q m true o (puts t (ahead_text name level z))) (even (not (stopping z)))

    -- The part of an if or a while behind its map, by what comes of its body.
    if-seeks : (d p q n m level : ℕ) {e : Parsed Expr} (r : Search) → tree s c (p + 1) ≡ ok e → (t : Text)
        → stmt_at name s ds k d level (stage e.next n false false t) ≡ outcome q m level t r
        → if_at (condition_at name s ds) (stmt_at name s ds k d) level (stage (p + 1) n false false t) ≡ outcome q m level t r
    unfolding if_at deeper condition_at said
    if-seeks d p q n m level r h t x =
        ap (λ (i : ℕ). closed level false false (stmt_at name s ds k d level (stage i n false false t))) (ends (p + 1) (p + 1) refl h)
        ∙ ap (closed level false false) x
        ∙ closed-off q m level t r

    wait-seeks : (q n level : ℕ) (t : Text) (z : Bool) → stage q n z z t ≡ outcome q n level t (pick z (found nothing) absent)
    unfolding outcome stopping ahead_text puts
    wait-seeks q n level t true = refl
    wait-seeks q n level t false = refl

    pub seeks : {d p : ℕ} {b : Body Expr} → ReadsStmt (tree s) c s d p b → (level n : ℕ) (t : Text)
        → stmt_at name s ds k d level (stage p n false false t) ≡ outcome b.next (counted n b.stmt) level t (remaining k n b.stmt)
    unfolding form_at inside form_map counted assign_at said sequence_at if_else_at while_at forever_at deeper condition_at wait_at remaining outcome
    seeks {p = p} (an-empty {d = d} l m) level n t = stmt-at name s ds k level (stage p n false false t) d an_empty (omega arith) m
    seeks {p = p} (an-assign {d = d} l m v r e w) level n t =
        stmt-at name s ds k level (stage p n false false t) d an_assign (omega arith) m
        ∙ ap (λ (x : ℕ). stage x n false false t) (ends (p + 2) (p + 1 + 1) (omega arith) e)
    seeks {p = p} (a-later {d = d} l m v r e w) level n t =
        stmt-at name s ds k level (stage p n false false t) d a_later (omega arith) m
        ∙ ap (λ (x : ℕ). stage x n false false t) (ends (p + 2) (p + 1 + 1) (omega arith) e)
    seeks {p = p} (a-sequence {d = d} {a = a} {b = b} l m x y) level n t =
        let i = counted n a.stmt in
        stmt-at name s ds k level (stage p n false false t) d a_sequence (omega arith) m
        ∙ ap (stmt_at name s ds k d level) (seeks x level n t)
        ∙ then-seeks (stmt_at name s ds k d level) a.next b.next i (counted i b.stmt) level (remaining k i b.stmt)
        (λ u. stopped y level i u) (λ u. seeks y level i u) (going i b.stmt) (λ u. goes y level i u) t (remaining k n a.stmt)
    seeks {p = p} (an-if {d = d} {a = a} l m h x) level n t =
        stmt-at name s ds k level (stage p n false false t) d an_if (omega arith) m
        ∙ if-seeks d p a.next n (counted n a.stmt) level (remaining k n a.stmt) h t (seeks x level n t)
    seeks {p = p} (an-if-else {d = d} {e = e} {a = a} {b = b} l m h x y) level n t =
        let i = counted n a.stmt in
        let second : Stage → Stage = λ (w : Stage). closed level false w.on (stmt_at name s ds k d level (switched level false w)) in
        stmt-at name s ds k level (stage p n false false t) d an_if_else (omega arith) m
        ∙ ap (λ (q : ℕ). second (stmt_at name s ds k d level (stage q n false false t))) (ends (p + 1) (p + 1) refl h)
        ∙ ap second (seeks x level n t)
        ∙ else-seeks (stmt_at name s ds k d level) a.next b.next i (counted i b.stmt) level (remaining k i b.stmt)
        (λ u. stopped y level i u) (λ u. seeks y level i u) t (remaining k n a.stmt)
    seeks {p = p} (a-while {d = d} {e = e} {a = a} l m h x) level n t =
        stmt-at name s ds k level (stage p n false false t) d a_while (omega arith) m
        ∙ comes-round (if_at (condition_at name s ds) (stmt_at name s ds k d) level) (p + 1) a.next n (counted n a.stmt) level
        (when e.item (going n a.stmt)) (λ u. if-goes d p a.next n (counted n a.stmt) level (going n a.stmt) h
        (λ v. goes x (level + 1) n v) u) t (remaining k n a.stmt)
        (if-seeks d p a.next n (counted n a.stmt) level (remaining k n a.stmt) h t (seeks x level n t))
    seeks {p = p} (a-forever {d = d} {a = a} l m x) level n t =
        stmt-at name s ds k level (stage p n false false t) d a_forever (omega arith) m
        ∙ comes-round (stmt_at name s ds k d level) (p + 1) a.next n (counted n a.stmt) level
        (going n a.stmt) (λ u. goes x level n u) t (remaining k n a.stmt) (seeks x level n t)
    seeks {p = p} (a-wait {d = d} {n = i} m w ts f) level n t =
        let b = w.below in
        let q : p + 1 + 1 ≡ p + 2 = omega arith in
        stmt-at name s ds k level (stage p n false false t) d a_wait (omega arith) m
        ∙ (λ j. stage (q j + 2 * (w.same j)) (after n) (eqb (after n) k) (eqb (after n) k) t)
        ∙ wait-seeks (p + 2 + 2 * i) (after n) level t (eqb (after n) k)

    -- ---- points

    outcome-text : (q n : ℕ) (t : Text) (r : Search) → (outcome q n 2 t r).text ≡ puts t (search_text name r)
    unfolding outcome search_text puts
    outcome-text q n t absent = refl
    outcome-text q n t (found a) = refl

    from-point : {p : ℕ} {b : Body Expr} → ReadsStmt (tree s) c s 64 p b → (t : Text) (z : Bool)
        → (forever_at (stmt_at name s ds k 64) 2 (stage p 0 z z t)).text
        ≡ puts t (search_text name (pick z (found (going 0 (forever b.stmt))) (remaining k 0 (forever b.stmt))))
    unfolding forever_at round_at search_text going remaining
    from-point x t true = ap (λ (w : Stage). w.text) (goes x 2 0 t)
    from-point {p} {b} x t false =
        ap (λ (w : Stage). w.text)
        (comes-round (stmt_at name s ds k 64 2) p b.next 0 (counted 0 b.stmt) 2 (going 0 b.stmt) (λ u. goes x 2 0 u) t
        (remaining k 0 b.stmt)
        (seeks x 2 0 t))
        ∙ outcome-text b.next (counted 0 b.stmt) t (followed (remaining k 0 b.stmt) (going 0 b.stmt))

    pub point-reads : {p : ℕ} {b : Body Expr} → ReadsStmt (tree s) c s 64 p b → (t : Text)
        → (point_at name s ds k p t).text ≡ puts t (point_text name k b.stmt)
    unfolding point_at point_text ahead
    point-reads {p} {b} x t = from-point x (puts t (heading_text k)) (eqb k 0) ∙ sym (puts-append t (heading_text k) (search_text name
        (ahead k b.stmt)))

  -- ---- a thread

  counts : {p : ℕ} {b : Body Expr} → ReadsStmt (tree s) c s 64 p b → (t : Text) → (point_at name s ds 0 p t).waits ≡ counted 0 b.stmt
  unfolding point_at forever_at round_at
  counts x t = ap (λ (w : Stage). w.waits) (goes 0 x 2 0 (puts t (heading_text 0)))

  points-reads : {p : ℕ} {b : Body Expr} → ReadsStmt (tree s) c s 64 p b → (n k : ℕ) (t : Text)
      → points_at name s ds n k p t ≡ puts t (points_text name n k b.stmt)
  unfolding points_at points_text puts
  points-reads x zero k t = refl
  points-reads {p} {b} x (suc n) k t =
      ap (points_at name s ds n (k + 1) p) (point-reads k x t)
      ∙ points-reads x n (k + 1) (puts t (point_text name k b.stmt))
      ∙ sym (puts-append t (point_text name k b.stmt) (points_text name n (k + 1) b.stmt))

  pub thread-reads : {p : ℕ} {b : Body Expr} → ReadsStmt (tree s) c s 64 p b → (i : ℕ) (t : Text)
      → thread_at name s ds i p t ≡ puts t (thread_text name i b.stmt)
  unfolding thread_at thread_text
  thread-reads {p} {b} x i t =
      let h = ascii "thread " & decimal i & ascii "\n" in
      let u = puts t h in
      (λ j. points_at name s ds (counts x u j) 1 p (point-reads 0 x u j))
      ∙ points-reads x (counted 0 b.stmt) 1 (puts u (point_text name 0 b.stmt))
      ∙ puts-three t h (point_text name 0 b.stmt) (points_text name (counted 0 b.stmt) 1 b.stmt) ∙ ap (puts t) (simp append_assoc)
