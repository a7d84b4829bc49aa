-- What the program prints fits the buffer: a line has at most 16 characters, and three for each byte that its statement
-- takes in the sheet; there are at most 2,048 lines and 8,192 bytes.
use mathlib.Core.Path.{◌≡◌, refl, ap}
use Prim.Native.Nat.{ℕ, zero, suc, ◌+◌, ◌*◌, ◌^◌, ◌≤◌, ◌<◌}
use native.Mathlib.Nat.{pow-le-pow_right}
use native.Mathlib.Omega.{arith}
use mathlib.Core.List.{List, [], ◌∷◌, ◌++◌}
use mathlib.Core.Bool.{Bool, true, false, ◌&&◌}
use lib.ListN.{length, drop, length-append}
use lib.Dec.{ltb, leb}
use borrow.Author.Tests.{ltb-true, leb-true}
use Rattle.values.specs.Edges.{edge_of, edge_number}
use Rattle.values.specs.declared.Edge.{Edge}
use Rattle.values.specs.declared.Edge.TheVariants.{Change, Posedge, Negedge}
use Rattle.sheet.specs.declared.EdgeTerm.{EdgeTerm}
use Rattle.sheet.specs.Reading.{Res, ok, no}
use Rattle.sheet.specs.Expression.{Expr, Scope, Parsed, Passed, tree}
use Rattle.sheet.specs.Statement.{Stmt, empty, assign, later, sequence, if_then, if_else, while, forever, wait, size, is_register, Body, read_stmt}
use Rattle.sheet.specs.Module.{Module, Listed, read_threads, read_sheet, read}
use Rattle.sheet.proofs.Reading.{bind_ok, check-ok, ok-injective}
use Rattle.sheet.proofs.Expression.{Reads, a-variable, a-constant, an-unknown, a-unary, a-binary, a-conditional, a-call, ReadsAll, no_arguments, an-argument}
use Rattle.sheet.proofs.Sections.{headed}
use Rattle.pseudocode.proofs.Sheets.{scope_with, sections, head-widths}
use Rattle.sheet.proofs.Statements.{ReadsTerms, no-terms, a-term, ReadsStmt, an-empty, an-assign, a-later, a-sequence, an-if, an-if-else, a-while, a-forever, a-wait, derive-stmt}
use Rattle.pseudocode.specs.Translation.{Instr, wait!, set!, later!, go, ifnot, translate, thread_code}
use Rattle.writing.specs.Ascii.{ascii}
use Rattle.writing.specs.Buffer.{filled, puts}
use Rattle.text.specs.Listing.{show_expr, show_all, show_term, show_terms, show_instr, show_line, show_code, show_threads, show_head, show_module, listing, refusal, printed, output}
use Rattle.writing.proofs.Buffer.{puts-front}
use Rattle.writing.proofs.Numbers.{length-decimal, decimal-twenty}
use Rattle.text.proofs.Located.{tree-reads}

-- ---- expressions

-- With the space before it, at most three characters a byte: of arguments, where each has no more.
length-all : {c : Scope} {s : List ℕ} {d : ℕ} → ((p : ℕ) (q : Parsed Expr) → Reads c s d p q → length (show_expr q.item) + 1 + 3 * p ≤ 3 * q.next)
    → {n p : ℕ} {es : Passed} → ReadsAll c s d n p es → length (show_all es.items) + 3 * p ≤ 3 * es.next
unfolding show_all
length-all inner no_arguments = omega arith
length-all inner (an-argument {p = p} {e = e} x es) = simp length-append (omega (arith, inner p e x, length-all inner es))

-- Of an expression, by its depth. A call's two bytes hold a number below 100.
module _ {c : Scope} {s : List ℕ} (b : length c.widths ≤ 100) (few : c.declared ≤ 100) where
  lengths : (d : ℕ) {p : ℕ} {q : Parsed Expr} → Reads c s d p q → length (show_expr q.item) + 1 + 3 * p ≤ 3 * q.next
  unfolding show_expr
  lengths zero {p = p} {q = q} x' = elim x' [ ]
  lengths (suc d) (a-variable {v = v} m h e l) = omega (arith, length-decimal 1 v (omega arith))
  lengths (suc d) (a-constant {w = w} {v = v} m k h e l) =
      let x : w ≤ 32 = k.most in
      let y : 2 ^ w ≤ 2 ^ 32 = pow-le-pow_right (omega arith) x in
      simp length-append (omega (arith, length-decimal 1 w (omega arith), length-decimal 9 v (omega arith)))
  lengths (suc d) (an-unknown {w = w} m k) = omega (arith, length-decimal 1 w (omega (arith, k.most)))
  lengths (suc d) (a-unary {o = o} m k x) =
      simp length-append (omega (arith, lengths d x, length-decimal 1 o (omega (arith, k.most))))
  lengths (suc d) (a-binary {o = o} m k x y e) =
      simp length-append (omega (arith, lengths d x, lengths d y, length-decimal 1 o (omega (arith, k.most))))
  lengths (suc d) (a-conditional m k x y z e) =
      simp length-append (omega (arith, lengths d x, lengths d y, lengths d z, length-decimal 1 10 (omega arith)))
  lengths (suc d) (a-call {n = n} m h e l g es w) =
      simp length-append (omega (arith, length-all (λ i q r. lengths d r) es, length-decimal 1 n (omega arith)))

  pub length-expr : {d p : ℕ} {q : Parsed Expr} → Reads c s d p q → length (show_expr q.item) + 1 + 3 * p ≤ 3 * q.next
  length-expr {d = d} r = lengths d r

-- ---- pairs of a wait

edge-small : (e : Edge) → edge_number e < 10
unfolding edge_number
edge-small Change = omega arith
edge-small Posedge = omega arith
edge-small Negedge = omega arith

pub length-terms : {ws s : List ℕ} {n at : ℕ} {ts : List EdgeTerm} → length ws ≤ 100 → ReadsTerms ws s n at ts
    → length (show_terms ts) ≤ 5 * n
unfolding show_terms show_term
length-terms b no-terms = omega arith
length-terms b (a-term {e = e} {v = v} w h x l ts) =
    simp length-append
    (omega (
      arith,
      length-terms b ts,
      length-decimal 0 (edge_number (edge_of e)) (edge-small (edge_of e)),
      length-decimal 1 v (omega arith),
    ))

-- ---- instructions

-- The characters of the instructions, without thread, place and line feed.
unfoldable pub weight : List (Instr Expr) → ℕ
weight [] = 0
weight (i ∷ is) = length (show_instr show_expr i) + weight is

weight-append : (is js : List (Instr Expr)) → weight (is ++ js) ≡ weight is + weight js
unfolding weight
weight-append [] js = omega arith
weight-append (i ∷ is) js = rw (weight-append is js) (omega arith)

module _ (n : ℕ) (e : Expr) where
  length-assign : n < 100 → length (show_instr show_expr (set! n e)) ≤ 9 + (length (show_expr e) + 1)
  unfolding show_instr ascii
  length-assign h = simp length-append (omega (arith, length-decimal 1 n h))

  length-later : n < 100 → length (show_instr show_expr (later! n e)) ≤ 9 + (length (show_expr e) + 1)
  unfolding show_instr ascii
  length-later h = simp length-append (omega (arith, length-decimal 1 n h))

  length-ifnot : n < 1000 → length (show_instr show_expr (ifnot e n)) ≤ 9 + (length (show_expr e) + 1)
  unfolding show_instr ascii
  length-ifnot h = simp length-append (omega (arith, length-decimal 2 n h))

length-go : (n : ℕ) → n < 1000 → length (show_instr show_expr (go n)) ≤ 9
unfolding show_instr ascii
length-go n h = simp length-append (omega (arith, length-decimal 2 n h))

length-wait : (ts : List EdgeTerm) → length (show_instr show_expr (wait! ts)) ≡ 4 + length (show_terms ts)
unfolding show_instr ascii
length-wait ts = simp length-append (omega arith)

-- ---- statements

and_right : (a b : Bool) → (a && b) ≡ true → b ≡ true
and_right true b h = h
and_right false b h = let z : false ≡ true = h in cc

register-below : (c : Scope) (t : ℕ) → is_register c t ≡ true → t < c.inputs + c.registers
unfolding is_register
register-below c t h =
    ltb-true t (c.inputs + c.registers) (and_right (leb c.inputs t) (ltb t (c.inputs + c.registers)) h)

module _ (c : Scope) (s : List ℕ) (r : c.inputs + c.registers ≤ 100) (w : length c.widths ≤ 100)
    (few : c.declared ≤ 100) where
  -- Nine characters an instruction, and three for each byte.
  pub weight-stmt : {d p : ℕ} {b : Body Expr} → ReadsStmt (tree s) c s d p b → (n : ℕ) → n + size b.stmt < 1000
      → weight (translate b.stmt n) + 3 * p ≤ 9 * size b.stmt + 3 * b.next
  unfolding translate size weight
  weight-stmt (an-empty l m) n h = omega arith
  weight-stmt {p = p} (an-assign {t = t} {e = e} l m x g y f) n h =
      let v = length-expr w few (tree-reads s c (p + 2) y) in
      omega (arith, length-assign t e.item (omega (arith, register-below c t g)))
  weight-stmt {p = p} (a-later {t = t} {e = e} l m x g y f) n h =
      let v = length-expr w few (tree-reads s c (p + 2) y) in
      omega (arith, length-later t e.item (omega (arith, register-below c t g)))
  weight-stmt (a-sequence {a = a} {b = b} l m x y) n h =
      let i = weight-stmt x n (omega arith) in
      let j = weight-stmt y (n + size a.stmt) (omega arith) in
      rw (weight-append (translate a.stmt n) (translate b.stmt (n + size a.stmt))) (omega arith)
  weight-stmt {p = p} (an-if {e = e} {a = a} l m y x) n h =
      let v = length-expr w few (tree-reads s c (p + 1) y) in
      let i = weight-stmt x (n + 1) (omega arith) in
      omega (arith, length-ifnot (n + 1 + size a.stmt) e.item (omega arith))
  weight-stmt {p = p} (an-if-else {e = e} {a = a} {b = b} l m q x y) n h =
      let v = length-expr w few (tree-reads s c (p + 1) q) in
      let i = weight-stmt x (n + 1) (omega arith) in
      let j = weight-stmt y (n + 2 + size a.stmt) (omega arith) in
      let g = n + 2 + size a.stmt in
      rw (weight-append (translate a.stmt (n + 1)) (go (g + size b.stmt) ∷ translate b.stmt g))
      (omega (arith, length-ifnot g e.item (omega arith), length-go (g + size b.stmt) (omega arith)))
  weight-stmt {p = p} (a-while {e = e} {a = a} l m y x) n h =
      let v = length-expr w few (tree-reads s c (p + 1) y) in
      let i = weight-stmt x (n + 1) (omega arith) in
      rw (weight-append (translate a.stmt (n + 1)) (go n ∷ []))
      (omega (arith, length-ifnot (n + size a.stmt + 2) e.item (omega arith), length-go n (omega arith)))
  weight-stmt (a-forever {a = a} l m x) n h =
      let i = weight-stmt x n (omega arith) in
      rw (weight-append (translate a.stmt n) (go n ∷ [])) (omega (arith, length-go n (omega arith)))
  weight-stmt (a-wait {ts = vs} m k ts f) n h =
      omega (arith, length-wait vs, length-terms w ts)

-- ---- lines

-- Seven characters for thread, place, two spaces and the line feed.
length-line : (thread place : ℕ) (i : Instr Expr) → thread < 10 → place < 1000
    → length (show_line show_expr thread place i) ≤ 7 + length (show_instr show_expr i)
unfolding show_line
length-line thread place i h k =
    simp length-append (omega (arith, length-decimal 0 thread h, length-decimal 2 place k))

length-code : (thread place : ℕ) (is : List (Instr Expr)) → thread < 10 → place + length is ≤ 1000
    → length (show_code show_expr thread place is) ≤ 7 * length is + weight is
unfolding show_code weight
length-code thread place [] h k = omega arith
length-code thread place (i ∷ is) h k =
    let x = length-line thread place i h (omega arith) in
    let y = length-code thread (place + 1) is h (omega arith) in
    rw (length-append (show_line show_expr thread place i) (show_code show_expr thread (place + 1) is)) (omega arith)

-- A statement has as many instructions as its size says.
length-translate : (a : Stmt Expr) (n : ℕ) → length (translate a n) ≡ size a
unfolding translate size
length-translate empty n = refl
length-translate (assign t e) n = refl
length-translate (later t e) n = refl
length-translate (sequence a b) n =
    simp length-append (omega (arith, length-translate a n, length-translate b (n + size a)))
length-translate (if_then e a) n = omega (arith, length-translate a (n + 1))
length-translate (if_else e a b) n =
    simp length-append (omega (arith, length-translate a (n + 1), length-translate b (n + 2 + size a)))
length-translate (while e a) n = simp length-append (omega (arith, length-translate a (n + 1)))
length-translate (forever a) n = simp length-append (omega (arith, length-translate a n))
length-translate (wait ts) n = refl

-- ---- threads

module _ (c : Scope) (s : List ℕ) (r : c.inputs + c.registers ≤ 100) (w : length c.widths ≤ 100)
    (few : c.declared ≤ 100) where
  pub length-thread : {d p : ℕ} {b : Body Expr} (thread : ℕ) → thread < 10 → size b.stmt + 1 ≤ 256
      → ReadsStmt (tree s) c s d p b
      → length (show_code show_expr thread 0 (thread_code b.stmt)) + 3 * p ≤ 4096 + 3 * b.next
  unfolding thread_code translate weight
  length-thread {b = b} thread h k x =
      let i = weight-stmt c s r w few x 0 (omega arith) in
      let l = length-translate b.stmt 0 in
      let m = length-append (translate b.stmt 0) (go 0 ∷ []) in
      omega (
        arith,
        length-code thread 0 (translate b.stmt 0 ++ (go 0 ∷ [])) h (omega arith),
        weight-append (translate b.stmt 0) (go 0 ∷ []),
        length-go 0 (omega arith),
      )

  pub length-threads : (n p : ℕ) {l : Listed (Stmt Expr)} → read_threads (tree s) c s n p ≡ ok l → (thread : ℕ)
      → thread + n ≤ 10
      → (length (show_threads show_expr thread l.items) + 3 * p ≤ 4096 * n + 3 * l.next) × (length l.items ≡ n)
  unfolding read_threads show_threads
  length-threads zero p h thread k = rw (← ok-injective h) (omega arith, refl)
  length-threads (suc n) p h thread k =
      let b = bind_ok (read_stmt (tree s) c s 64 p) _ h in
      let f = check-ok (leb (size b.0.stmt + 1) 256) 11 p _ b.2 in
      let bs = bind_ok (read_threads (tree s) c s n b.0.next) _ f.1 in
      let a = derive-stmt (tree s) c s 64 p b.1 in
      let x = length-thread {b = b.0} thread (omega arith) (leb-true _ _ f.0) a in
      let y = length-threads n b.0.next bs.1 (thread + 1) (omega arith) in
      let z =
      length-append (show_code show_expr thread 0 (thread_code b.0.stmt))
      (show_threads show_expr (thread + 1) bs.0.items) in
      rw (← ok-injective bs.2) (omega arith, ap suc y.1)

-- ---- the listing and the output

length-head : (n : ℕ) → n < 10 → length (show_head n) ≤ 10
unfolding show_head ascii
length-head n h = simp length-append (omega (arith, length-decimal 0 n h))

pub length-listing : (s : List ℕ) {m : Module Expr} → read s ≡ ok m → length (listing m) ≤ 65536
unfolding read listing show_module
length-listing s e =
    let r = bind_ok (read_sheet (tree s) s) _ e in
    let x = sections (tree s) s r.1 in
    let c = scope_with x.head x.functions in
    let h = headed s x.head-read in
    let i = h.inputs-most in
    let g = h.registers-most in
    let t = h.threads-most in
    let f = h.functions-most in
    let w = head-widths s x.head h in
    let y = length-threads c s (omega arith) (omega arith) (omega arith) x.head.threads x.wires.next x.threads-read 0 (omega arith) in
    let z = length-append (show_head (length x.threads.items)) (show_threads show_expr 0 x.threads.items) in
    let l = x.short in
    let q = x.ended in
    rw (← ok-injective r.2, x.made)
    (omega (arith, length-head (length x.threads.items) (omega arith)))

pub length-output : (s : List ℕ) → length (output s) ≤ 65536
unfolding output printed refusal ascii
length-output s = by (read s) refl
  where
    by : (x : Res (Module Expr)) → read s ≡ x → length (printed x) ≤ 65536
    by (ok m) h = length-listing s h
    by (no n p) h = simp length-append (omega (arith, decimal-twenty n))

-- Put at the buffer's beginning, the output lies in front, and the rest of the buffer is as it was.
pub output-front : (l s : List ℕ) → length l ≡ 65536
    → puts (filled l 0) (output s) ≡ filled (output s ++ drop (length (output s)) l) (length (output s))
output-front l s e = puts-front l (output s) e (length-output s)
