-- The listing by the places of the expressions, as the code keeps them, is the listing by their trees.
use mathlib.Core.Path.{◌≡◌, refl, sym, ap, ◌∙◌, subst}
use Prim.Native.Nat.{ℕ, zero, suc, ◌+◌, ◌≤◌}
use native.Mathlib.Omega.{arith}
use mathlib.Core.List.{List, [], ◌∷◌, ◌++◌, map}
use lib.ListN.{length, length-map}
use lib.Dec.{leb}
use Rattle.sheet.specs.declared.EdgeTerm.{EdgeTerm}
use Rattle.sheet.specs.Reading.{Res, ok, no}
use Rattle.sheet.specs.Expression.{Expr, Scope, Parsed, tree, located, expr_at}
use Rattle.sheet.specs.Statement.{Stmt, size, map_stmt, Body, read_stmt}
use Rattle.sheet.specs.Module.{map_module, Listed, read_threads, Sheet, read_sheet}
use Rattle.sheet.specs.Answers.{definitions_of}
use Rattle.sheet.proofs.Reading.{bind_ok, check-ok, ok-injective}
use Rattle.sheet.proofs.Expression.{Reads, derive}
use Rattle.sheet.proofs.Statements.{terms-length, ReadsStmt, an-empty, an-assign, a-later, a-sequence, an-if, an-if-else, a-while, a-forever, a-wait, derive-stmt}
use Rattle.sheet.proofs.Trees.{map_res, expr-at, size-map, trees, read-located}
use Rattle.pseudocode.specs.Translation.{Instr, wait!, set!, later!, go, ifnot, translate, thread_code}
use Rattle.pseudocode.specs.Instruction.{terms_of, instruction_of}
use Rattle.pseudocode.proofs.Sheets.{scope_with, sections}
use Rattle.pseudocode.proofs.Skipping.{Counted}
use Rattle.pseudocode.proofs.Compiling.{sheet-counted}
use Rattle.text.specs.Listing.{show_expr, show_instr, show_line, show_code, show_threads, show_module, listing, printed, output}
use Rattle.text.specs.Printing.{text_at, all_terms, term_list, action_instr, instr_of, printed_at}
use Rattle.text.proofs.Printing.{text-reads}

-- ---- an instruction by places and the same by trees

pub data Placed (c : Scope) (s : List ℕ) : Instr ℕ → Instr Expr → Type 0 where
  waits : {ts : List EdgeTerm} → length ts ≤ 8 → Placed c s (wait! ts) (wait! ts)
  assigns : {t p : ℕ} {q : Parsed Expr} → Reads c s 16 p q → Placed c s (set! t p) (set! t q.item)
  laters : {t p : ℕ} {q : Parsed Expr} → Reads c s 16 p q → Placed c s (later! t p) (later! t q.item)
  goes : {g : ℕ} → Placed c s (go g) (go g)
  ifnots : {g p : ℕ} {q : Parsed Expr} → Reads c s 16 p q → Placed c s (ifnot p g) (ifnot q.item g)

pub data PlacedAll (c : Scope) (s : List ℕ) : List (Instr ℕ) → List (Instr Expr) → Type 0 where
  none : PlacedAll c s [] []
  more : {i : Instr ℕ} {j : Instr Expr} {is : List (Instr ℕ)} {js : List (Instr Expr)}
      → Placed c s i j → PlacedAll c s is js → PlacedAll c s (i ∷ is) (j ∷ js)

-- The code's terms of at most eight pairs are those pairs.
pub terms-of : (ts : List EdgeTerm) → length ts ≤ 8 → term_list (terms_of ts) ≡ ts
unfolding term_list all_terms terms_of
terms-of [] h = refl
terms-of (a ∷ []) h = refl
terms-of (a ∷ b ∷ []) h = refl
terms-of (a ∷ b ∷ c ∷ []) h = refl
terms-of (a ∷ b ∷ c ∷ d ∷ []) h = refl
terms-of (a ∷ b ∷ c ∷ d ∷ e ∷ []) h = refl
terms-of (a ∷ b ∷ c ∷ d ∷ e ∷ f ∷ []) h = refl
terms-of (a ∷ b ∷ c ∷ d ∷ e ∷ f ∷ g ∷ []) h = refl
terms-of (a ∷ b ∷ c ∷ d ∷ e ∷ f ∷ g ∷ i ∷ []) h = refl
terms-of (a ∷ b ∷ c ∷ d ∷ e ∷ f ∷ g ∷ i ∷ j ∷ ts) h = absurd (omega arith)

module _ {c : Scope} {s : List ℕ} where
  -- The code's instruction stands for the one by places.
  pub instr-of : {i : Instr ℕ} {j : Instr Expr} → Placed c s i j → instr_of (instruction_of i) ≡ i
  unfolding instr_of action_instr instruction_of
  instr-of (waits {ts = ts} h) = ap wait! (terms-of ts h)
  instr-of (assigns r) = refl
  instr-of (laters r) = refl
  instr-of goes = refl
  instr-of (ifnots r) = refl

  placed-append : {is ks : List (Instr ℕ)} {js ls : List (Instr Expr)} → PlacedAll c s is js → PlacedAll c s ks ls
      → PlacedAll c s (is ++ ks) (js ++ ls)
  placed-append none q = q
  placed-append (more p ps) q = more p (placed-append ps q)

module _ {c : Scope} {s : List ℕ} (ds : List ℕ) (counted : Counted s ds c.functions) where
  pub instr-placed : {i : Instr ℕ} {j : Instr Expr} → Placed c s i j → show_instr (text_at s ds) i ≡ show_instr show_expr j
  unfolding show_instr
  instr-placed (waits h) = refl
  instr-placed (assigns r) = rw (text-reads c s ds counted r)
  instr-placed (laters r) = rw (text-reads c s ds counted r)
  instr-placed goes = refl
  instr-placed (ifnots r) = rw (text-reads c s ds counted r)

  pub line-placed : (thread place : ℕ) {i : Instr ℕ} {j : Instr Expr} → Placed c s i j
      → show_line (text_at s ds) thread place (instr_of (instruction_of i)) ≡ show_line show_expr thread place j
  unfolding show_line
  line-placed thread place {i} p = rw (instr-of p, instr-placed p)

  pub code-placed : (thread place : ℕ) {is : List (Instr ℕ)} {js : List (Instr Expr)} → PlacedAll c s is js
      → show_code (text_at s ds) thread place is ≡ show_code show_expr thread place js
  unfolding show_code show_line
  code-placed thread place none = refl
  code-placed thread place (more p ps) = rw (instr-placed p, code-placed thread (place + 1) ps)

-- ---- a statement that was read

pub tree-reads : (s : List ℕ) (c : Scope) (p : ℕ) {q : Parsed Expr} → tree s c p ≡ ok q → Reads c s 16 p q
unfolding tree
tree-reads s c p h = derive c s 16 p h

-- An expression that was read by its place, and its tree.
place-reads : (s : List ℕ) (c : Scope) (p : ℕ) {e : Parsed ℕ} → located s c p ≡ ok e
    → (q : Parsed Expr) × (Reads c s 16 e.item q) × (expr_at s c e.item ≡ q.item)
unfolding located
place-reads s c p h =
    let t = bind_ok (tree s c p) _ h in
    rw (← ok-injective t.2) (t.0, tree-reads s c p t.1, expr-at s c p t.1)

module _ (c : Scope) (s : List ℕ) where
  abbrev tree_at : ℕ → Expr
  tree_at = expr_at s c

  pub stmt-placed : {d p : ℕ} {b : Body ℕ} → ReadsStmt (located s) c s d p b → (n : ℕ)
      → PlacedAll c s (translate b.stmt n) (translate (map_stmt tree_at b.stmt) n)
  unfolding translate map_stmt
  stmt-placed (an-empty l m) n = none
  stmt-placed (an-assign l m t r e w) n = let x = place-reads s c _ e in rw x.2 (more (assigns x.1) none)
  stmt-placed (a-later l m t r e w) n = let x = place-reads s c _ e in rw x.2 (more (laters x.1) none)
  stmt-placed (a-sequence {a = a} l m x y) n =
      rw (size-map tree_at a.stmt) (placed-append (stmt-placed x n) (stmt-placed y (n + size a.stmt)))
  stmt-placed (an-if {a = a} l m e x) n =
      let q = place-reads s c _ e in
      rw (size-map tree_at a.stmt, q.2) (more (ifnots q.1) (stmt-placed x (n + 1)))
  stmt-placed (an-if-else {a = a} {b = b} l m e x y) n =
      let q = place-reads s c _ e in
      rw (size-map tree_at a.stmt, size-map tree_at b.stmt, q.2)
      (more (ifnots q.1) (placed-append (stmt-placed x (n + 1)) (more goes (stmt-placed y (n + 2 + size a.stmt)))))
  stmt-placed (a-while {a = a} l m e x) n =
      let q = place-reads s c _ e in
      rw (size-map tree_at a.stmt, q.2) (more (ifnots q.1) (placed-append (stmt-placed x (n + 1)) (more goes none)))
  stmt-placed (a-forever l m x) n = placed-append (stmt-placed x n) (more goes none)
  stmt-placed (a-wait {ts = vs} m k ts w) n = more (waits {ts = vs} (omega (arith, terms-length ts, k.most))) none

  -- ---- threads

  pub thread-placed : {d p : ℕ} {b : Body ℕ} → ReadsStmt (located s) c s d p b
      → PlacedAll c s (thread_code b.stmt) (thread_code (map_stmt tree_at b.stmt))
  unfolding thread_code translate
  thread-placed x = placed-append (stmt-placed x 0) (more goes none)

  pub threads-placed : (ds : List ℕ) → Counted s ds c.functions → (n p : ℕ) {l : Listed (Stmt ℕ)} → read_threads (located s) c s n p ≡ ok l
      → (thread : ℕ) → show_threads (text_at s ds) thread l.items ≡ show_threads show_expr thread (map (map_stmt tree_at) l.items)
  unfolding read_threads show_threads
  threads-placed ds counted zero p h thread = rw (← ok-injective h)
  threads-placed ds counted (suc n) p h thread =
      let b = bind_ok (read_stmt (located s) c s 64 p) _ h in
      let k = check-ok (leb (size b.0.stmt + 1) 256) 11 p _ b.2 in
      let bs = bind_ok (read_threads (located s) c s n b.0.next) _ k.1 in
      let x = code-placed ds counted thread 0 (thread-placed (derive-stmt (located s) c s 64 p b.1)) in
      let y = threads-placed ds counted n b.0.next bs.1 (thread + 1) in
      rw (← ok-injective bs.2) (rw (x, y))

-- ---- the sheet

pub module-placed : (s : List ℕ) {r : Sheet ℕ} → read_sheet (located s) s ≡ ok r
    → show_module (text_at s (definitions_of r.definitions)) r.contents ≡ listing (trees s r).contents
unfolding show_module listing trees map_module
module-placed s {r} h =
    let x = sections (located s) s h in
    let c = scope_with x.head x.functions in
    let ds = definitions_of r.definitions in
    let counted : Counted s ds c.functions = subst (λ (q : Sheet ℕ). Counted s ds q.contents.scope.functions) x.made (sheet-counted (located s) s h) in
    let y = threads-placed c s ds counted x.head.threads x.wires.next x.threads-read 0 in
    subst
    (λ (q : Sheet ℕ). show_module (text_at s ds) q.contents ≡ show_module show_expr (map_module (expr_at s q.contents.scope) q.contents))
    (sym x.made)
    (rw (length-map x.threads.items (map_stmt (expr_at s c)), y))

-- What the program prints, by the sheet as the code reads it.
pub output-located : (s : List ℕ) → output s ≡ printed_at s (read_sheet (located s) s)
unfolding output printed printed_at map_res
output-located s = ap printed (read-located s) ∙ by (read_sheet (located s) s) refl
  where
    by : (x : Res (Sheet ℕ)) → read_sheet (located s) s ≡ x
        → printed (map_res (λ r. (trees s r).contents) x) ≡ printed_at s x
    by (ok r) h = sym (module-placed s h)
    by (no n p) h = refl
