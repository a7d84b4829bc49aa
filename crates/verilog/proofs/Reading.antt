-- Where the sheet was read, the text over its bytes is the module's; and what the call gives, by the answer of reading.
use mathlib.Core.Path.{◌≡◌, refl, sym, ap, ◌∙◌}
use Prim.Native.Nat.{ℕ, zero, suc, ◌+◌, ◌*◌, ◌≤◌, ◌<◌}
use native.Mathlib.Omega.{arith}
use mathlib.Core.List.{List, [], ◌∷◌, ◌++◌, append-nil, append_assoc}
use mathlib.Core.Bool.{Bool, true, false}
use lib.ListN.{length, get_or, take, drop, replicate, length-map, length-drop, length-append, length-replicate, get_or-append}
use lib.Seq.{drop-cons, take_all, take-suc, get_or-take, get_or-drop, length-take-le}
use lib.Dec.{ltb, leb, eqb}
use borrow.Author.Tests.{ne_eqb, eqb-true, ltb-true, leb-true}
use Rattle.values.specs.Values.{pick}
use Rattle.values.proofs.Values.{and_left, and_right}
use Rattle.sheet.specs.declared.EdgeTerm.{EdgeTerm}
use Rattle.sheet.specs.declared.SheetRead.{SheetRead}
use Rattle.sheet.specs.Reading.{Res, ok, no, byte_at, within}
use Rattle.sheet.specs.Expression.{Expr, Function, no_function, Scope, Parsed, Passed, read_expr, tree, located}
use Rattle.sheet.specs.Statement.{Stmt, sequence, size, is_register, Body, Form, an_empty, an_assign, a_later, a_sequence, an_if, an_if_else, a_while, a_forever, a_wait, form_of, read_stmt}
use Rattle.sheet.specs.Functions.{read_widths, Bodied, body_form, read_body, body_scope, function_of, Made, read_function, Defined, read_functions}
use Rattle.sheet.specs.Module.{map_module, Listed, widths_at, Head, with_functions, read_head, read_wires, read_threads, Sheet, whole_sheet, read_sheet}
use Rattle.sheet.specs.Answers.{definitions_of, layout_of, blank, sheet_answer}
use Rattle.sheet.proofs.Reading.{no≢ok, bind_ok, check-ok, ok-injective, byte-ok, within-ok}
use Rattle.sheet.proofs.Expression.{Reads, a-variable, a-constant, an-unknown, a-unary, a-binary, a-conditional, a-call, ReadsAll, no_arguments, an-argument, derive}
use Rattle.sheet.proofs.Statements.{ReadsTerms, no-terms, a-term, ReadsStmt, an-empty, an-assign, a-later, a-sequence, an-if, an-if-else, a-while, a-forever, a-wait, form_map, form-map, derive-stmt}
use Rattle.sheet.proofs.Sections.{widths-part, wires-count, threads-count, headed}
use Rattle.sheet.proofs.Closed.{whole}
use Rattle.sheet.proofs.Trees.{map_res, trees, sheet-located, read-located}
use Rattle.sheet.proofs.Numbers.{numbered-no, located-numbered, sheet-numbered}
use Rattle.pseudocode.proofs.Skipping.{Counted, counted_none, functions-counted}
use Rattle.writing.specs.Ascii.{ascii}
use Rattle.writing.specs.Numbers.{decimal}
use Rattle.writing.specs.Buffer.{Text, filled, puts}
use Rattle.naming.specs.Naming.{name_of}
use Rattle.signs.specs.Signs.{sign, operands, lead}
use Rattle.signs.proofs.Signs.{operands-one, operands-two, lead-first, lead-last}
use Rattle.verilog.specs.Verilog.{◌&◌, indent, waiting, nesting, single, front, expr_text, arguments_text, term_text, terms_text, sequence_text, stmt_text, wires_text, opening, remainder, opened_text, thread_text, threads_text, declarations_text, statement_of, own_name, function_text, functions_text, module_text, answer, printed, verilog_of}
use Rattle.verilog.specs.Printing.{Shown, shown, behind, lead_at, operands_at, word_at, shape_of, bodies_of, flat, inner_level, end_at, closing_at, shown_at, term_at, terms_at, assign_at, condition_at, wait_at, heading_at, form_at, stmt_at, declarations_at, wire_at, wires_at, block_at, waiting_at, thread_at, threads_at, definition_of, definition_at, definitions_at, module_at}
use Rattle.verilog.proofs.Printing as Printing

-- ---- a statement by its heading and its bodies

module _ (name : ℕ → List ℕ) (s ds : List ℕ) (stmt : ℕ → ℕ → Shown) (n p m : ℕ) where
  -- A statement without a body.
  form-none : {q : ℕ} {h : List ℕ} → heading_at name s ds n p m ≡ shown q h → bodies_of m ≡ 0 → form_at name s ds stmt n p m ≡ shown q h
  unfolding form_at behind
  form-none {q} {h} e k = rw (e, k)
      (ap (λ (x : Shown). behind h x) (Printing.bodies-none stmt m n 0 q refl) ∙ ap (shown q) (append-nil h))

  -- With one.
  form-one : {q x : ℕ} {h t : List ℕ} → heading_at name s ds n p m ≡ shown q h → bodies_of m ≡ 1 → stmt (inner_level m 1 n) q ≡ shown x t
      → form_at name s ds stmt n p m ≡ shown x (h ++ (t ++ closing_at m 1 n))
  unfolding form_at behind
  form-one {q} {h = h} e k f = rw (e, k) (ap (λ (x : Shown). behind h x) (Printing.bodies-one stmt m n q f))

  -- With two.
  form-two : {q x y : ℕ} {h t u : List ℕ} → heading_at name s ds n p m ≡ shown q h → bodies_of m ≡ 2
      → stmt (inner_level m 2 n) q ≡ shown x t
      → stmt (inner_level m 1 n) x ≡ shown y u
      → form_at name s ds stmt n p m ≡ shown y (h ++ ((t ++ closing_at m 2 n) ++ (u ++ closing_at m 1 n)))
  unfolding form_at behind
  form-two {q} {h = h} e k f g = rw (e, k) (ap (λ (x : Shown). behind h x) (Printing.bodies-two stmt m n q f g))

-- ---- expressions

-- The operands of ?: by what is shown of each.
module _ (name : ℕ → List ℕ) (s ds : List ℕ) where
  choice-shown : (d p : ℕ) {n m k : ℕ} {t u v : List ℕ} → shown_at name s ds d p ≡ shown n t → shown_at name s ds d n ≡ shown m u
      → shown_at name s ds d m ≡ shown k v
      → operands_at (shown_at name s ds d) 10 (operands 10) p ≡ shown k (t & ascii " ? " & u & ascii " : " & v & ascii ")")
  unfolding operands lead_at lead ascii
  choice-shown d p e f g = Printing.operands-three (shown_at name s ds d) 10 p e f g

-- The functions' definitions stand at ds.
module _ (name : ℕ → List ℕ) (c : Scope) (s ds : List ℕ) (counted : Counted s ds c.functions) where
  -- The arguments of a call that has a of them, from the kth on.
  arguments-shown : {d : ℕ}
      → ((p : ℕ) (q : Parsed Expr) → Reads c s d p q → shown_at name s ds d p ≡ shown q.next (expr_text name q.item))
      → (a k : ℕ) {n p : ℕ} {es : Passed} → k + n ≡ a → ReadsAll c s d n p es
      → operands_at (shown_at name s ds d) (11 + a) n p ≡ shown es.next (arguments_text name k es.items ++ ascii ")")
  unfolding operands_at arguments_text behind
  arguments-shown inner a k h no_arguments = refl
  arguments-shown inner a k h (an-argument {n = n} {e = e} x es) =
      rw (inner _ e x, Printing.lead-place a k (suc n) h, arguments-shown inner a (k + 1) (omega arith) es) (simp append_assoc)

  -- By the depth.
  shown_by : (d : ℕ) {p : ℕ} {q : Parsed Expr} → Reads c s d p q
      → shown_at name s ds d p ≡ shown q.next (expr_text name q.item)
  unfolding behind expr_text
  shown_by zero {p = p} {q = q} x' = elim x' [ ]
  shown_by (suc d) {p = p} (a-variable m h e l) =
      Printing.shown-suc name s ds d p _ _ (omega arith) (sym m) (sym e) ∙ Printing.node-variable name s ds _ p 0x02 _ refl
  shown_by (suc d) {p = p} (a-constant m w h e l) =
      let x = w.below in
      Printing.shown-suc name s ds d p _ _ (omega arith) (sym m) (sym w.same) ∙ Printing.node-constant name s ds _ p 0x0C _ refl ∙ rw e
  shown_by (suc d) {p = p} (an-unknown m w) =
      let x = w.below in
      Printing.shown-suc name s ds d p _ _ (omega arith) (sym m) (sym w.same) ∙ Printing.node-unknown name s ds _ p 0x04 _ refl
  shown_by (suc d) {p = p} (a-unary {o = o} {a = a} m w x) =
      let b = w.below in
      let l = w.most in
      Printing.shown-suc name s ds d p _ _ (omega arith) (sym m) (sym w.same)
      ∙ Printing.node-operator name s ds _ p 0x11 _ (omega arith) (omega arith) (omega arith) (omega arith)
      ∙ ap (λ (n : ℕ). behind (ascii "(") (operands_at (shown_at name s ds d) o n (p + 2))) (operands-one o (omega arith))
      ∙ ap (behind (ascii "(")) (Printing.operands-one (shown_at name s ds d) o (p + 2) (shown_by d x))
      ∙ ap (λ (t : List ℕ). shown a.next (ascii "(" ++ t))
      (rw (Printing.lead-operator o 1 (omega arith), lead-last o (omega arith)) (append_assoc (sign o) (expr_text name a.item) (ascii ")")))
  shown_by (suc d) {p = p} (a-binary {o = o} {a = a} {b = b} m w x y e) =
      let below = w.below in
      let low = w.least in
      let high = w.most in
      Printing.shown-suc name s ds d p _ _ (omega arith) (sym m) (sym w.same)
      ∙ Printing.node-operator name s ds _ p 0x31 _ (omega arith) (omega arith) (omega arith) (omega arith)
      ∙ ap (λ (n : ℕ). behind (ascii "(") (operands_at (shown_at name s ds d) o n (p + 2))) (operands-two o (omega arith) (omega arith))
      ∙ ap (behind (ascii "(")) (Printing.operands-two (shown_at name s ds d) o (p + 2) (shown_by d x) (shown_by d y))
      ∙ ap (λ (t : List ℕ). shown b.next (ascii "(" ++ t))
      (rw (Printing.lead-operator o 2 (omega arith), Printing.lead-operator o 1 (omega arith), lead-first o (omega arith), lead-last o (omega arith))
      (ap (λ (t : List ℕ). expr_text name a.item ++ t)
      (append_assoc (sign o) (expr_text name b.item) (ascii ")"))))
  shown_by (suc d) {p = p} (a-conditional {o = o} {a = a} {b = b} m w z x y e) =
      let below = w.below in
      let ten : o ≡ 10 = omega (arith, w.least, w.most) in
      Printing.shown-suc name s ds d p _ _ (omega arith) (sym m) (sym w.same)
      ∙ Printing.node-operator name s ds _ p 0x71 _ (omega arith) (omega arith) (omega arith) (omega arith)
      ∙ ap (λ (n : ℕ). behind (ascii "(") (operands_at (shown_at name s ds d) n (operands n) (p + 2))) ten
      ∙ ap (behind (ascii "(")) (choice-shown name s ds d (p + 2) (shown_by d z) (shown_by d x) (shown_by d y))
  shown_by (suc d) {p = p} (a-call {n = n} {es = es} m h e l f x w) =
      let a = length (get_or c.functions n no_function).parameters in
      Printing.shown-suc name s ds d p _ _ (omega arith) (sym m) (sym e)
      ∙ Printing.node_call name s ds _ p 0x80 _ refl
      ∙ ap (λ (k : ℕ). behind (ascii "f" & decimal n & ascii "(") (operands_at (shown_at name s ds d) (11 + k) k (p + 2))) (counted n f)
      ∙ ap (behind (ascii "f" & decimal n & ascii "(")) (arguments-shown (λ i q r. shown_by d r) a 0 (omega arith) x)
      ∙ simp append_assoc

  pub shown-reads : {d p : ℕ} {q : Parsed Expr} → Reads c s d p q
      → shown_at name s ds d p ≡ shown q.next (expr_text name q.item)
  shown-reads {d = d} r = shown_by d r

-- ---- waits

module _ (name : ℕ → List ℕ) {ws s : List ℕ} where
  pub terms-reads : {n p : ℕ} {ts : List EdgeTerm} → ReadsTerms ws s n p ts → (k : ℕ)
      → terms_at name s n k p ≡ terms_text name k ts
  unfolding terms_at term_at terms_text term_text
  terms-reads no-terms k = refl
  terms-reads (a-term w h e l ts) k = rw (w.same, e, terms-reads ts (k + 1)) refl

-- ---- statements

module _ (name : ℕ → List ℕ) (c : Scope) (s ds : List ℕ) (counted : Counted s ds c.functions) where
  -- An expression that was read.
  tree-shown : (p : ℕ) {e : Parsed Expr} → tree s c p ≡ ok e
      → shown_at name s ds 16 p ≡ shown e.next (expr_text name e.item)
  unfolding tree
  tree-shown p h = shown-reads name c s ds counted (derive c s 16 p h)

  word-shown : (n p : ℕ) (word : List ℕ) → word_at word n p ≡ shown (p + 1) (indent n & word)
  unfolding word_at
  word-shown n p word = refl

  module _ (n p : ℕ) {e : Parsed Expr} where
    condition-reads : (word : List ℕ) → tree s c (p + 1) ≡ ok e
        → condition_at name s ds word n p ≡ shown e.next (indent n & word & expr_text name e.item & ascii ") begin\n")
    unfolding condition_at
    condition-reads word h = ap (λ (x : Shown). shown x.next (indent n & word & x.text & ascii ") begin\n"))
        (tree-shown (p + 1) h)

    assign_reads : (sign : List ℕ) {t : ℕ} → get_or s (p + 1) 0 ≡ t → tree s c (p + 2) ≡ ok e
        → assign_at name s ds sign n p ≡ shown e.next
        (indent n & name t & sign & expr_text name e.item & ascii ";\n")
    unfolding assign_at
    assign_reads sign {t} v h =
        ap (λ (x : Shown). shown x.next (indent n & name (get_or s (p + 1) 0) & sign & x.text & ascii ";\n"))
        (tree-shown (p + 2) h)
        ∙ ap (λ (x : ℕ). shown e.next (indent n & name x & sign & expr_text name e.item & ascii ";\n")) v

  wait-reads : (word : List ℕ) (n p : ℕ) {k : ℕ} {ts : List EdgeTerm} → get_or s (p + 1) 0 ≡ k → ReadsTerms c.widths s k (p + 2) ts
      → wait_at name s word n p ≡ shown (p + 2 + 2 * k) (indent n & ascii "@(" & terms_text name 0 ts & word)
  unfolding wait_at
  wait-reads word n p e ts = rw (e, terms-reads name ts 0) refl

  -- ---- sequences, by their first part

  data Fronted (p : ℕ) (a : Body Expr) : Type 0 where
    is-wait : {k : ℕ} {ts : List EdgeTerm} → get_or s p 0 ≡ 0x10 → get_or s (p + 1) 0 ≡ k → ReadsTerms c.widths s k (p + 2) ts
        → front a.stmt ≡ waiting ts → p + 2 + 2 * k ≡ a.next → Fronted p a
    is-sequence : get_or s p 0 ≡ 0x0C → front a.stmt ≡ nesting → Fronted p a
    is-single : (get_or s p 0 ≡ 0x10 → ⊥) → (get_or s p 0 ≡ 0x0C → ⊥) → front a.stmt ≡ single → Fronted p a

  front_reads : {d p : ℕ} {a : Body Expr} → ReadsStmt (tree s) c s d p a → Fronted p a
  unfolding front
  front_reads (an-empty l m) = is-single (omega arith) (omega arith) refl
  front_reads (an-assign l m t g e w) = is-single (omega arith) (omega arith) refl
  front_reads (a-later l m t g e w) = is-single (omega arith) (omega arith) refl
  front_reads (a-sequence l m x y) = is-sequence m refl
  front_reads (an-if l m e x) = is-single (omega arith) (omega arith) refl
  front_reads (an-if-else l m e x y) = is-single (omega arith) (omega arith) refl
  front_reads (a-while l m e x) = is-single (omega arith) (omega arith) refl
  front_reads (a-forever l m x) = is-single (omega arith) (omega arith) refl
  front_reads (a-wait m w ts f) = is-wait m w.same ts refl refl

  shape-of : (p k : ℕ) → get_or s p 0 ≡ 0x0C → get_or s (p + 1) 0 ≡ k → shape_of 0x0C k ≡ shape_of (get_or s p 0) (get_or s (p + 1) 0)
  shape-of p k m e = rw (e, m)

  module _ (d n p : ℕ) (a b : Body Expr) (l : p < length s) (m : get_or s p 0 ≡ 0x0C) where
    sequence-reads : Fronted (p + 1) a
        → ((l : ℕ) → stmt_at name s ds d l (p + 1) ≡ shown a.next (stmt_text name l a.stmt))
        → ((l : ℕ) → stmt_at name s ds d l a.next ≡ shown b.next (stmt_text name l b.stmt))
        → stmt_at name s ds (suc d) n p ≡ shown b.next
        (sequence_text name n (front a.stmt) (λ l. stmt_text name l a.stmt)
        (λ l. stmt_text name l b.stmt))
    unfolding sequence_text bodies_of inner_level flat closing_at end_at shape_of
    sequence-reads (is-wait {k} {ts} g h u f e) x y =
        rw f
        (Printing.stmt-suc name s ds d n p 0x1C l (shape-of p 0x10 m g)
        ∙ form-one name s ds _ n p 0x1C
        (Printing.heading-opening name s ds n p 0x1C refl ∙ wait-reads (ascii ") begin\n") n (p + 1) h u
        ∙ ap (λ (q : ℕ). shown q (indent n & ascii "@(" & terms_text name 0 ts & ascii ") begin\n")) e)
        refl (y (n + 1))
        ∙ simp append_assoc)
    sequence-reads (is-sequence g f) x y =
        rw f
        (Printing.stmt-suc name s ds d n p 0x2C l (shape-of p 0x0C m g)
        ∙ form-two name s ds _ n p 0x2C (Printing.heading-nesting name s ds n p 0x2C refl ∙ word-shown n p (ascii "begin\n")) refl
        (x (n + 1)) (y n)
        ∙ simp (append-nil, append_assoc))
    sequence-reads (is-single g h f) x y =
        rw f
        (Printing.stmt-suc name s ds d n p 0x0C l (Printing.shape-single _ _ m g h)
        ∙ form-two name s ds _ n p 0x0C (Printing.heading-sequence name s ds n p 0x0C refl) refl (x n) (y n)
        ∙ simp append-nil)

  pub stmt-reads : {d p : ℕ} {b : Body Expr} → ReadsStmt (tree s) c s d p b → (n : ℕ)
      → stmt_at name s ds d n p ≡ shown b.next (stmt_text name n b.stmt)
  unfolding stmt_text bodies_of inner_level flat closing_at end_at
  stmt-reads {p = p} (an-empty {d = d} l m) n =
      Printing.stmt-map name s ds d n p 0x00 l (sym m) (omega arith) ∙ form-none name s ds _ n p 0x00
      (Printing.heading-empty name s ds n p 0x00 refl ∙ word-shown n p (ascii "begin end\n")) refl
  stmt-reads {p = p} (an-assign {d = d} l m t g e w) n =
      Printing.stmt-map name s ds d n p 0x03 (omega arith) (sym m) (omega arith)
      ∙ form-none name s ds _ n p 0x03 (Printing.heading-assign name s ds n p 0x03 refl ∙ assign_reads n p (ascii " = ") t e) refl
  stmt-reads {p = p} (a-later {d = d} l m t g e w) n =
      Printing.stmt-map name s ds d n p 0x23 (omega arith) (sym m) (omega arith)
      ∙ form-none name s ds _ n p 0x23 (Printing.heading-later name s ds n p 0x23 refl ∙ assign_reads n p (ascii " <= ") t e) refl
  stmt-reads {p = p} (a-sequence {d = d} {a = a} {b = b} l m x y) n =
      sequence-reads d n p a b l m (front_reads x) (λ k. stmt-reads x k) (λ k. stmt-reads y k)
  stmt-reads {p = p} (an-if {d = d} l m e x) n =
      Printing.stmt-map name s ds d n p 0x06 l (sym m) (omega arith)
      ∙ form-one name s ds _ n p 0x06 (Printing.heading-if name s ds n p 0x06 refl ∙ condition-reads n p (ascii "if (") e) refl
      (stmt-reads x (n + 1))
      ∙ simp append_assoc
  stmt-reads {p = p} (an-if-else {d = d} l m e x y) n =
      Printing.stmt-map name s ds d n p 0x0E l (sym m) (omega arith)
      ∙ form-two name s ds _ n p 0x0E (Printing.heading-if-else name s ds n p 0x0E refl ∙ condition-reads n p (ascii "if (") e) refl
      (stmt-reads x (n + 1)) (stmt-reads y (n + 1))
      ∙ simp append_assoc
  stmt-reads {p = p} (a-while {d = d} l m e x) n =
      Printing.stmt-map name s ds d n p 0x46 l (sym m) (omega arith)
      ∙ form-one name s ds _ n p 0x46 (Printing.heading-while name s ds n p 0x46 refl ∙ condition-reads n p (ascii "while (") e) refl
      (stmt-reads x (n + 1))
      ∙ simp append_assoc
  stmt-reads {p = p} (a-forever {d = d} l m x) n =
      Printing.stmt-map name s ds d n p 0x44 l (sym m) (omega arith)
      ∙ form-one name s ds _ n p 0x44 (Printing.heading-forever name s ds n p 0x44 refl ∙ word-shown n p (ascii "forever begin\n")) refl
      (stmt-reads x (n + 1))
      ∙ simp append_assoc
  stmt-reads {p = p} (a-wait {d = d} {n = k} {ts = vs} m w ts f) n =
      let b = w.below in
      Printing.stmt-map name s ds d n p 0x10 (omega arith) (sym m) (omega arith)
      ∙ form-none name s ds _ n p 0x10 (Printing.heading-wait name s ds n p 0x10 refl ∙ wait-reads (ascii ");\n") n p w.same ts) refl

  -- ---- wires and threads

  wires-step : (n v p : ℕ) {q x : ℕ} {t u : List ℕ} → wire_at name s ds v p ≡ shown q t → wires_at name s ds n (v + 1) q ≡ shown x u
      → wires_at name s ds (suc n) v p ≡ shown x (t ++ u)
  unfolding wires_at behind
  wires-step n v p {t = t} e f = ap (λ (y : Shown). behind y.text (wires_at name s ds n (v + 1) y.next)) e ∙ ap (behind t) f

  wire-reads : (v p : ℕ) {e : Parsed Expr} → tree s c p ≡ ok e
      → wire_at name s ds v p ≡ shown e.next
      (ascii "  assign " & name v & ascii " = " & expr_text name e.item & ascii ";\n")
  unfolding wire_at
  wire-reads v p h = ap (λ (x : Shown). shown x.next
      (ascii "  assign " & name v & ascii " = " & x.text & ascii ";\n")) (tree-shown p h)

  pub wires-reads : (n v p : ℕ) {l : Listed Expr} → read_wires (tree s) c s n v p ≡ ok l
      → wires_at name s ds n v p ≡ shown l.next (wires_text name v l.items)
  unfolding read_wires wires_at wires_text
  wires-reads zero v p h = rw (← ok-injective h) refl
  wires-reads (suc n) v p h =
      let e = bind_ok (tree s c p) _ h in
      let w = check-ok (eqb e.0.width (get_or c.widths v 0)) 8 p _ e.2 in
      let es = bind_ok (read_wires (tree s) c s n (v + 1) e.0.next) _ w.1 in
      rw (← ok-injective es.2) (wires-step n v p (wire-reads v p e.1) (wires-reads n (v + 1) e.0.next es.1)
      ∙ simp append_assoc)

  threads-step : (n p : ℕ) {q x : ℕ} {t u : List ℕ} → thread_at name s ds p ≡ shown q t → threads_at name s ds n q ≡ shown x u
      → threads_at name s ds (suc n) p ≡ shown x (t ++ u)
  unfolding threads_at behind
  threads-step n p {t = t} e f = ap (λ (y : Shown). behind y.text (threads_at name s ds n y.next)) e ∙ ap (behind t) f

  -- In a block, where the statement's shape isn't that of one that opens with a wait.
  block_reads : (p m : ℕ) {b : Body Expr} → p < length s → m ≡ shape_of (get_or s p 0) (get_or s (p + 1) 0) → (m ≡ 0x1C → ⊥)
      → ReadsStmt (tree s) c s 64 p b
      → thread_at name s ds p ≡ shown b.next (ascii "  always begin\n" & stmt_text name 2 b.stmt & ascii "  end\n")
  unfolding block_at
  block_reads p m h e n x =
      Printing.thread-block name s ds p (sym (Printing.opens-shape s p m h e) ∙ ne_eqb m 0x1C n)
      ∙ ap (λ (y : Shown). shown y.next (ascii "  always begin\n" & y.text & ascii "  end\n")) (stmt-reads x 2)

  map-reads : (p m : ℕ) {b : Body Expr} → p < length s → get_or s p 0 ≡ m → (m ≡ 0x0C → ⊥) → (m ≡ 0x1C → ⊥)
      → ReadsStmt (tree s) c s 64 p b
      → thread_at name s ds p ≡ shown b.next (ascii "  always begin\n" & stmt_text name 2 b.stmt & ascii "  end\n")
  map-reads p m h e k n x =
      block_reads p m h
      (Printing.shape-map m (get_or s (p + 1) 0) k ∙ ap (λ (y : ℕ). shape_of y (get_or s (p + 1) 0)) (sym e)) n x

  -- Behind the wait that the statement opens with.
  waiting-reads : (p : ℕ) {k n : ℕ} {ts : List EdgeTerm} {b : Body Expr} → p < length s → get_or s p 0 ≡ 0x0C → get_or s (p + 1) 0 ≡ 0x10
      → get_or s (p + 1 + 1) 0 ≡ k → ReadsTerms c.widths s k (p + 1 + 2) ts → p + 1 + 2 + 2 * k ≡ n
      → ReadsStmt (tree s) c s 63 n b
      → thread_at name s ds p ≡ shown b.next
      (ascii "  always " & ascii "@(" & terms_text name 0 ts & ascii ") begin\n" & stmt_text name 2 b.stmt & ascii "  end\n")
  unfolding waiting_at indent shape_of
  waiting-reads p {ts = ts} h m g k u e y =
      Printing.thread-waiting name s ds p (sym (Printing.opens-shape s p 0x1C h (shape-of p 0x10 m g)))
      ∙ ap (λ (w : Shown). let q = stmt_at name s ds 63 2 w.next in shown q.next (ascii "  always " & w.text & q.text & ascii "  end\n"))
      (wait-reads (ascii ") begin\n") 0 (p + 1) k u
      ∙ ap (λ (q : ℕ). shown q (indent 0 & ascii "@(" & terms_text name 0 ts & ascii ") begin\n")) e)
      ∙ ap (λ (q : Shown). shown q.next
      (ascii "  always " & (indent 0 & ascii "@(" & terms_text name 0 ts & ascii ") begin\n") & q.text & ascii "  end\n"))
      (stmt-reads y 2)
      ∙ simp append_assoc

  opened-reads : (p : ℕ) {a b : Body Expr} → p < length s → get_or s p 0 ≡ 0x0C → Fronted (p + 1) a
      → ReadsStmt (tree s) c s 63 a.next b
      → ReadsStmt (tree s) c s 64 p (record { stmt = sequence a.stmt b.stmt; next = b.next })
      → thread_at name s ds p ≡ shown b.next (opened_text name (front a.stmt)
      (λ l. stmt_text name l (sequence a.stmt b.stmt)) (λ l. stmt_text name l b.stmt))
  unfolding opened_text shape_of
  opened-reads p h m (is-wait g k u f e) y z = rw f (waiting-reads p h m g k u e y)
  opened-reads p h m (is-sequence g f) y z = rw f (block_reads p 0x2C h (shape-of p 0x0C m g) (omega arith) z)
  opened-reads p h m (is-single g k f) y z = rw f (block_reads p 0x0C h (Printing.shape-single _ _ m g k) (omega arith) z)

  thread-reads : (p : ℕ) {b : Body Expr} → ReadsStmt (tree s) c s 64 p b
      → thread_at name s ds p ≡ shown b.next (thread_text name b.stmt)
  unfolding thread_text opening remainder opened_text
  thread-reads p (an-empty l m) = map-reads p 0x00 l m (omega arith) (omega arith) (an-empty l m)
  thread-reads p (an-assign l m t g e w) = map-reads p 0x03 (omega arith) m (omega arith) (omega arith) (an-assign l m t g e w)
  thread-reads p (a-later l m t g e w) = map-reads p 0x23 (omega arith) m (omega arith) (omega arith) (a-later l m t g e w)
  thread-reads p (a-sequence l m x y) = opened-reads p l m (front_reads x) y (a-sequence l m x y)
  thread-reads p (an-if l m e x) = map-reads p 0x06 l m (omega arith) (omega arith) (an-if l m e x)
  thread-reads p (an-if-else l m e x y) = map-reads p 0x0E l m (omega arith) (omega arith) (an-if-else l m e x y)
  thread-reads p (a-while l m e x) = map-reads p 0x46 l m (omega arith) (omega arith) (a-while l m e x)
  thread-reads p (a-forever l m x) = map-reads p 0x44 l m (omega arith) (omega arith) (a-forever l m x)
  thread-reads p (a-wait m w ts f) =
      let b = w.below in map-reads p 0x10 (omega arith) m (omega arith) (omega arith) (a-wait m w ts f)

  pub threads-reads : (n p : ℕ) {l : Listed (Stmt Expr)} → read_threads (tree s) c s n p ≡ ok l
      → threads_at name s ds n p ≡ shown l.next (threads_text name l.items)
  unfolding read_threads threads_at threads_text
  threads-reads zero p h = rw (← ok-injective h) refl
  threads-reads (suc n) p h =
      let b = bind_ok (read_stmt (tree s) c s 64 p) _ h in
      let k = check-ok (leb (size b.0.stmt + 1) 256) 11 p _ b.2 in
      let bs = bind_ok (read_threads (tree s) c s n b.0.next) _ k.1 in
      rw (← ok-injective bs.2) (threads-step n p (thread-reads p (derive-stmt (tree s) c s 64 p b.1))
      (threads-reads n b.0.next bs.1))

-- ---- declarations

pub declarations-reads : (name : ℕ → List ℕ) (s : List ℕ) (i r q n v : ℕ) → q + v + n ≤ length s
    → declarations_at name s i r q n v ≡ declarations_text name i r v (take n (drop (q + v) s))
unfolding declarations_at declarations_text
declarations-reads name s i r q zero v h = refl
declarations-reads name s i r q (suc n) v h =
    let f : suc (q + v) ≡ q + (v + 1) = omega arith in
    let e : drop (q + v) s ≡ get_or s (q + v) 0 ∷ drop (q + (v + 1)) s = drop-cons s (q + v) 0 (omega arith) ∙ ap
    (λ (k : ℕ). get_or s (q + v) 0 ∷ drop k s) f in
    rw (e, declarations-reads name s i r q n (v + 1) (omega arith)) refl

-- From the first on.
first-declarations : (name : ℕ → List ℕ) (s : List ℕ) (i r q n : ℕ) {ws : List ℕ} → q + n ≤ length s → ws ≡ take n (drop q s)
    → declarations_at name s i r q n 0 ≡ declarations_text name i r 0 ws
first-declarations name s i r q n h e =
    let z : q + 0 ≡ q = omega arith in
    declarations-reads name s i r q n 0 (omega arith)
    ∙ ap (λ (k : ℕ). declarations_text name i r 0 (take n (drop k s))) z ∙ ap (declarations_text name i r 0) (sym e)

-- ---- functions

-- A body that is read is read as the statement that it is.
module _ (c : Scope) (s : List ℕ) (one : c.registers ≡ 1) where
  abbrev stated : Bodied → Body Expr
  stated b = record { stmt = statement_of c.inputs b.body; next = b.next }

  target_is : (t : ℕ) → is_register c t ≡ true → t ≡ c.inputs
  unfolding is_register
  target_is t h =
      let low = leb-true c.inputs t (and_left (leb c.inputs t) (ltb t (c.inputs + c.registers)) h) in
      let high = ltb-true t (c.inputs + c.registers) (and_right (leb c.inputs t) (ltb t (c.inputs + c.registers)) h) in
      omega (arith, low, high, one)

  body-form : (d p : ℕ) (f : Form) {b : Bodied} → ((q : ℕ) (a : Bodied) → read_body d c s q ≡ ok a → ReadsStmt (tree s) c s d q (stated a))
      → p < length s → get_or s p 0 ≡ form_map f → body_form (read_body d c s) c s p f ≡ ok b → ReadsStmt (tree s) c s (suc d) p (stated b)
  unfolding body_form form_map tree statement_of
  body-form d p an_empty inner l m h = rw (← ok-injective h) (an-empty l m)
  body-form d p an_assign inner l m h =
      let t = bind_ok (byte_at s (p + 1)) _ h in
      let r = check-ok (is_register c t.0) 9 (p + 1) _ t.2 in
      let e = bind_ok (read_expr 16 c s (p + 2)) _ r.1 in
      let w = check-ok (eqb e.0.width (get_or c.widths t.0 0)) 8 p _ e.2 in
      let y = byte-ok s (p + 1) t.1 in
      let x = target_is t.0 r.0 in
      rw (← ok-injective w.1)
      (an-assign y.0 m (y.1 ∙ x) (ap (is_register c) (sym x) ∙ r.0) e.1
      (eqb-true _ _ w.0 ∙ ap (λ (v : ℕ). get_or c.widths v 0) x))
  body-form d p a_later inner l m h = absurd (no≢ok h)
  body-form d p a_sequence inner l m h =
      let a = bind_ok (read_body d c s (p + 1)) _ h in
      let b = bind_ok (read_body d c s a.0.next) _ a.2 in
      rw (← ok-injective b.2) (a-sequence l m (inner (p + 1) _ a.1) (inner _ _ b.1))
  body-form d p an_if inner l m h =
      let e = bind_ok (read_expr 16 c s (p + 1)) _ h in
      let a = bind_ok (read_body d c s e.0.next) _ e.2 in
      rw (← ok-injective a.2) (an-if l m e.1 (inner _ _ a.1))
  body-form d p an_if_else inner l m h =
      let e = bind_ok (read_expr 16 c s (p + 1)) _ h in
      let a = bind_ok (read_body d c s e.0.next) _ e.2 in
      let b = bind_ok (read_body d c s a.0.next) _ a.2 in
      rw (← ok-injective b.2) (an-if-else l m e.1 (inner _ _ a.1) (inner _ _ b.1))
  body-form d p a_while inner l m h = absurd (no≢ok h)
  body-form d p a_forever inner l m h = absurd (no≢ok h)
  body-form d p a_wait inner l m h = absurd (no≢ok h)

  body-stmt : (d p : ℕ) {b : Bodied} → read_body d c s p ≡ ok b → ReadsStmt (tree s) c s d p (stated b)
  unfolding read_body
  body-stmt zero p h = absurd (no≢ok (bind_ok (byte_at s p) _ h).2)
  body-stmt (suc d) p h =
      let m = bind_ok (byte_at s p) _ h in
      let f = bind_ok (form_of m.0 p) _ m.2 in
      let y = byte-ok s p m.1 in
      body-form d p f.0 (λ q a g. body-stmt d q g) y.0 (y.1 ∙ form-map m.0 p f.1) f.2

module _ (s ds : List ℕ) where
  -- The widths of a function's k parameters and of its result, from q on.
  own-widths : (q k : ℕ) {ws : List ℕ} → ws ≡ take (k + 1) (drop q s) → q + (k + 1) ≤ length s
      → (ws ≡ take k ws ++ (get_or ws k 0 ∷ [])) × (length (take k ws) ≡ k) × (get_or s (q + k) 0 ≡ get_or ws k 0)
  own-widths q k {ws} e h =
      let n = length-take-le (k + 1) (drop q s) (omega (arith, length-drop q s)) in
      let l : length ws ≡ k + 1 = ap length e ∙ n in
      let whole : take (suc k) ws ≡ ws = take_all (suc k) ws (omega arith) in (
        sym whole ∙ take-suc ws k 0 (omega arith),
        length-take-le k ws (omega arith),
        sym (ap (λ (u : List ℕ). get_or u k 0) e ∙ get_or-take (k + 1) (drop q s) k 0 (omega arith) ∙ get_or-drop q s k 0),
      )

  definition-reads : (declared n : ℕ) (earlier : List Function) (p : ℕ) {f : Made} → Counted s ds earlier
      → read_function declared earlier s p ≡ ok f → definition_at s ds n p ≡ shown f.next (function_text n f.function)
  unfolding read_function body_scope function_of definition_of function_text
  definition-reads declared n earlier p counted h =
      let k = bind_ok (within 1 4 3 s p) _ h in
      let ws = bind_ok (read_widths (k.0 + 1) s (p + 1)) _ k.2 in
      let c = body_scope declared earlier k.0 ws.0 in
      let b = bind_ok (read_body 64 c s (p + 2 + k.0)) _ ws.2 in
      let x = within-ok 1 4 3 s p k.1 in
      let below = x.below in
      let part = widths-part (k.0 + 1) s (p + 1) (omega arith) ws.1 in
      let own = own-widths (p + 1) k.0 part.0 part.1 in
      let body = body_reads k.0 (p + 2 + k.0) c refl refl refl b.1 in
      rw (← ok-injective b.2)
      (Printing.definition-of s ds n p k.0 below (sym x.same)
      ∙ rw (own.1, own.2, body, first-declarations (own_name k.0) s k.0 1 (p + 1) (k.0 + 1) part.1 (sym own.0 ∙ part.0)) refl)
    where
      body_reads : (k q : ℕ) (c : Scope) {b : Bodied} → c.inputs ≡ k → c.registers ≡ 1 → c.functions ≡ earlier → read_body 64 c s q ≡ ok b
          → stmt_at (own_name k) s ds 64 2 q ≡ shown b.next (stmt_text (own_name k) 2 (statement_of k b.body))
      body_reads k q c ei one ef h =
          rw (← ei) (stmt-reads (own_name c.inputs) c s ds (rw ef counted) (body-stmt c s one 64 q h) 2)

  definitions-step : (m n p : ℕ) (f : Function) (fs : List Function) {q x : ℕ} → definition_at s ds n p ≡ shown q (function_text n f)
      → definitions_at s ds m (n + 1) q ≡ shown x (functions_text (n + 1) fs)
      → definitions_at s ds (suc m) n p ≡ shown x (functions_text n (f ∷ fs))
  unfolding definitions_at functions_text behind
  definitions-step m n p f fs e g =
      ap (λ (y : Shown). behind y.text (definitions_at s ds m (n + 1) y.next)) e ∙ ap (behind (function_text n f)) g

  -- What is read behind the earlier functions follows them.
  definitions-reads : (declared m : ℕ) (earlier : List Function) (p : ℕ) {d : Defined} → Counted s ds d.functions
      → read_functions declared m earlier s p ≡ ok d
      → (fs : List Function) × (d.functions ≡ earlier ++ fs)
      × (definitions_at s ds m (length earlier) p ≡ shown d.next (functions_text (length earlier) fs))
  unfolding read_functions definitions_at functions_text behind
  definitions-reads declared zero earlier p counted h = rw (← ok-injective h) ([], sym (append-nil earlier), refl)
  definitions-reads declared (suc m) earlier p counted h =
      let f = bind_ok (read_function declared earlier s p) _ h in
      let more = earlier ++ (f.0.function ∷ []) in
      let fs = bind_ok (read_functions declared m more s f.0.next) _ f.2 in
      let all = ap (λ (x : Defined). x.functions) (ok-injective fs.2) in
      let end = ap (λ (x : Defined). x.next) (ok-injective fs.2) in
      let r = definitions-reads declared m more f.0.next (rw all counted) fs.1 in
      let same = sym all ∙ r.1 ∙ append_assoc earlier (f.0.function ∷ []) r.0 in
      let sum = length-append earlier (f.0.function ∷ []) in
      let size : length more ≡ length earlier + 1 = omega arith in
      let here = definition-reads declared (length earlier) earlier p (prefix earlier _ same counted) f.1 in (
        f.0.function ∷ r.0,
        same,
        definitions-step m (length earlier) p f.0.function r.0 here
            ((λ j. definitions_at s ds m (sym size j) f.0.next) ∙ r.2 ∙ (λ j. shown (end j) (functions_text (size j) r.0))),
      )
    where
      prefix : (fs gs : List Function) {all : List Function} → all ≡ fs ++ gs → Counted s ds all → Counted s ds fs
      prefix fs gs {all} e counted n l =
          let size = length-append fs gs in
          let long = ap length e in
          counted n (omega arith) ∙ ap (λ (x : List Function). length (get_or x n no_function).parameters) e
          ∙ ap (λ (x : Function). length x.parameters) (get_or-append fs gs no_function n l)

-- ---- the sheet

pub module-reads : (name : ℕ → List ℕ) (s : List ℕ) {x : Sheet Expr} → whole_sheet (tree s) s ≡ ok x
    → let c = x.contents.scope in
    module_at name s (definitions_of x.definitions) c.inputs c.registers (length x.contents.wires) (length x.contents.threads)
    c.declared (widths_at c.declared) ≡ module_text name x.contents
unfolding whole_sheet module_at module_text definitions_of
module-reads name s h =
    let k = check-ok (leb (length s) 8192) 1 8192 _ h in
    let hd = bind_ok (read_head s) _ k.1 in
    let head = hd.0.scope in
    let fs = bind_ok (read_functions head.declared head.declared [] s hd.0.next) _ hd.2 in
    let c = with_functions head fs.0.functions in
    let es = bind_ok (read_wires (tree s) c s hd.0.wires (c.inputs + c.registers) fs.0.next) _ fs.2 in
    let ts = bind_ok (read_threads (tree s) c s hd.0.threads es.0.next) _ es.2 in
    let z = check-ok (eqb ts.0.next (length s)) 10 ts.0.next _ ts.2 in
    let y = headed s hd.1 in
    let most = y.functions-most in
    let w = wires-count (tree s) c s hd.0.wires (c.inputs + c.registers) fs.0.next es.1 in
    let t = threads-count (tree s) c s hd.0.threads es.0.next ts.1 in
    let n = c.inputs + c.registers + hd.0.wires in
    let q = widths_at c.declared in
    let ds = definitions_of fs.0.places in
    let counted : Counted s ds c.functions = functions-counted c.declared c.declared [] s hd.0.next (replicate 8 0) 0 refl
    (omega arith) (length-replicate {A = ℕ} 8 0) (counted_none s (replicate 8 0)) fs.1 in
    let next : hd.0.next ≡ q + n = ap (λ (g : Head). g.next) y.same in
    let defined = definitions-reads s ds c.declared c.declared [] hd.0.next counted fs.1 in
    let functions : definitions_at s ds c.declared 0 (q + n) ≡ shown fs.0.next (functions_text 0 c.functions) =
    ap (definitions_at s ds c.declared 0) (sym next) ∙ defined.2
    ∙ ap (λ (l : List Function). shown fs.0.next (functions_text 0 l)) (sym defined.1) in
    let wires = wires-reads name c s ds counted hd.0.wires (c.inputs + c.registers) fs.0.next es.1 in
    let threads = threads-reads name c s ds counted hd.0.threads es.0.next ts.1 in
    let declared : declarations_at name s c.inputs c.registers q n 0 ≡ declarations_text name c.inputs c.registers 0 c.widths =
    first-declarations name s c.inputs c.registers q n y.inside (ap (λ (g : Head). g.scope.widths) y.same) in
    rw (← ok-injective z.1) (rw (← w, ← t) (rw (declared, functions, wires, threads) refl))

-- ---- what the call gives, by the answer of reading

abbrev number-of : SheetRead → ℕ
number-of a = a.number

module _ (s names buffer : List ℕ) (a : SheetRead) (e : a ≡ sheet_answer (read_sheet (located s) s)) where
  -- The text over the sheet's bytes, by what the code reads.
  abbrev module_of : SheetRead → List ℕ
  module_of b =
      let l = b.layout in
      module_at (name_of names) s l.definitions l.inputs l.registers l.wires l.threads l.functions l.widths

  pub print-refused : (a.number ≡ 0 → ⊥) → answer a.number (filled buffer 0) ≡ verilog_of s names buffer
  unfolding sheet_answer verilog_of printed map_res
  print-refused h = by (read_sheet (located s) s) refl ∙ ap (printed names buffer) (sym (read-located s))
    where
      by : (x : Res (Sheet ℕ)) → read_sheet (located s) s ≡ x
          → answer a.number (filled buffer 0) ≡ printed names buffer (map_res (λ r. (trees s r).contents) x)
      by (ok q) g = absurd (h (ap number-of e ∙ ap (λ (y : Res (Sheet ℕ)). (sheet_answer y).number) g))
      by (no n p) g = ap (λ (k : ℕ). answer k (filled buffer 0))
          (ap number-of e ∙ ap (λ (y : Res (Sheet ℕ)). (sheet_answer y).number) g)

  pub print-read : {t : Text} → a.number ≡ 0
      → t ≡ puts (filled buffer 0) (module_of a)
      → answer 0 t ≡ verilog_of s names buffer
  unfolding sheet_answer layout_of verilog_of printed map_res trees map_module
  print-read {t} h f = by (read_sheet (located s) s) refl ∙ ap (printed names buffer) (sym (read-located s))
    where
      by : (x : Res (Sheet ℕ)) → read_sheet (located s) s ≡ x → answer 0 t ≡ printed names buffer (map_res (λ r. (trees s r).contents) x)
      by (ok q) g =
          let l : a ≡ sheet_answer (ok q) = e ∙ ap sheet_answer g in
          let m = module-reads (name_of names) s (whole (tree s) s (sheet-located s ∙ ap (map_res (trees s)) g)) in
          ap (answer 0) (f ∙ ap (λ (b : SheetRead). puts (filled buffer 0) (module_of b)) l ∙ ap (puts (filled buffer 0)) (simp length-map at m))
      by (no n p) g =
          let k : n ≡ 0 = sym (ap number-of e ∙ ap (λ (y : Res (Sheet ℕ)). (sheet_answer y).number) g) ∙ h in
          let z = numbered-no (sheet-numbered (located s) (located-numbered s) s) g in
          absurd (omega arith)

-- The widths stand behind the counts.
pub widths-small : (x : Res (Sheet ℕ)) {a : SheetRead} → a ≡ sheet_answer x → a.layout.widths < 1000
unfolding sheet_answer layout_of blank widths_at
widths-small (ok q) e = rw e (by (ltb 0 q.contents.scope.declared))
  where
    by : (b : Bool) → pick b 5 4 < 1000
    by true = omega arith
    by false = omega arith
widths-small (no n p) e = rw e (omega arith)
