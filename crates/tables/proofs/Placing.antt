-- The instructions of a statement that was read: by the places of the expressions, as the code keeps them, and by their trees.
-- Each expression was read at its place, and targets and goals fit a byte. Assumes nothing.
use mathlib.Core.Path.{◌≡◌, refl, sym, ap, ◌∙◌}
use mathlib.Core.Bool.{Bool, true, false, ◌&&◌}
use mathlib.Core.List.{List, [], ◌∷◌, ◌++◌}
use Prim.Native.Nat.{ℕ, zero, suc, ◌+◌, ◌≤◌, ◌<◌}
use native.Mathlib.Nat.{not-suc-le-zero, le_of_suc-le-suc}
use native.Mathlib.Omega.{arith}
use lib.ListN.{length, get_or}
use lib.Dec.{ltb, leb}
use borrow.Author.Tests.{ltb-true, leb-true}
use Rattle.sheet.specs.declared.EdgeTerm.{EdgeTerm}
use Rattle.sheet.specs.Reading.{ok}
use Rattle.sheet.specs.Expression.{Expr, Scope, Parsed, tree, located, expr_at}
use Rattle.sheet.specs.Statement.{Stmt, empty, size, map_stmt, is_register, Body, read_stmt}
use Rattle.sheet.specs.Module.{Listed, read_threads}
use Rattle.sheet.proofs.Reading.{bind_ok, check-ok, ok-injective}
use Rattle.sheet.proofs.Expression.{derive}
use Rattle.sheet.proofs.Statements.{ReadsTerms, no-terms, a-term, terms-length, derive-stmt}
use Rattle.sheet.proofs.Statements.{ReadsStmt, an-empty, an-assign, a-later, a-sequence, an-if, an-if-else, a-while, a-forever, a-wait}
use Rattle.sheet.proofs.Trees.{expr-at, size-map}
use Rattle.evaluation.specs.Evaluation.{eval}
use Rattle.evaluation.specs.declared.Evaluated.{Evaluated}
use Rattle.evaluation.proofs.Evaluation.{eval_at-eval}
use Rattle.pseudocode.specs.Translation.{Instr, wait!, set!, later!, go, ifnot, translate, thread_code}
use Rattle.pseudocode.specs.Instruction.{terms_of, instruction_of}
use Rattle.pseudocode.specs.declared.Action.TheVariants.{Set, Later, Go, IfNot}
use Rattle.pseudocode.specs.declared.Instruction.{Instruction}
use Rattle.pseudocode.specs.declared.Instruction.TheVariants.{Wait, Act}
use Rattle.tables.specs.Holding.{Stands, Fetched, a-wait, a-set, a-later, a-go, an-ifnot}
use Rattle.tables.proofs.Marking.{ReadAt}

-- ---- an expression that was read

pub stands : {c : Scope} {s : List ℕ} {e : Expr} {p : ℕ} → c.declared ≡ 0 → ReadAt c s e p → Stands s c.widths e p
stands z r f = ap (λ (x : Evaluated). x.value) (eval_at-eval f z r.1) ∙ ap (eval f) r.2

-- By its place.
pub located-read : (s : List ℕ) (c : Scope) (p : ℕ) {e : Parsed ℕ} → located s c p ≡ ok e → ReadAt c s (expr_at s c e.item) e.item
unfolding located tree
located-read s c p h =
    let t = bind_ok (tree s c p) _ h in
    rw (← ok-injective t.2) (t.0, derive c s 16 p t.1, sym (expr-at s c p t.1))

-- ---- an instruction by places and the same by trees

-- The variables of the terms are among the module's.
abbrev pub Names : List ℕ → List EdgeTerm → Type 0
Names ws ts = (k : ℕ) (other : EdgeTerm) → k < length ts → (get_or ts k other).variable < length ws

pub data Placed (c : Scope) (s : List ℕ) : Instr ℕ → Instr Expr → Type 0 where
  waits : {ts : List EdgeTerm} → length ts ≤ 8 → Names c.widths ts → Placed c s (wait! ts) (wait! ts)
  assigns : {t p : ℕ} {e : Expr} → t < 256 → ReadAt c s e p → Placed c s (set! t p) (set! t e)
  laters : {t p : ℕ} {e : Expr} → t < 256 → ReadAt c s e p → Placed c s (later! t p) (later! t e)
  goes : {g : ℕ} → g < 256 → Placed c s (go g) (go g)
  ifnots : {g p : ℕ} {e : Expr} → g < 256 → ReadAt c s e p → Placed c s (ifnot p g) (ifnot e g)

pub data PlacedAll (c : Scope) (s : List ℕ) : List (Instr ℕ) → List (Instr Expr) → Type 0 where
  none : PlacedAll c s [] []
  more : {i : Instr ℕ} {j : Instr Expr} {is : List (Instr ℕ)} {js : List (Instr Expr)}
      → Placed c s i j → PlacedAll c s is js → PlacedAll c s (i ∷ is) (j ∷ js)

-- An instruction of the translation, and the one that was fetched for it: its expression was read where the code says.
pub data Coded (c : Scope) (s : List ℕ) : Instr Expr → Instruction → Type 0 where
  codes-wait : {ts : List EdgeTerm} → length ts ≤ 8 → Names c.widths ts → Coded c s (wait! ts) (Wait (terms_of ts))
  codes-set : {t p : ℕ} {e : Expr} → t < 256 → ReadAt c s e p → Coded c s (set! t e) (Act (Set t p))
  codes-later : {t p : ℕ} {e : Expr} → t < 256 → ReadAt c s e p → Coded c s (later! t e) (Act (Later t p))
  codes-go : {g : ℕ} → g < 256 → Coded c s (go g) (Act (Go g))
  codes-ifnot : {g p : ℕ} {e : Expr} → g < 256 → ReadAt c s e p → Coded c s (ifnot e g) (Act (IfNot g p))

module _ {c : Scope} {s : List ℕ} where
  pub placed-coded : {i : Instr ℕ} {j : Instr Expr} → Placed c s i j → Coded c s j (instruction_of i)
  unfolding instruction_of
  placed-coded (waits h n) = codes-wait h n
  placed-coded (assigns h x) = codes-set h x
  placed-coded (laters h x) = codes-later h x
  placed-coded (goes h) = codes-go h
  placed-coded (ifnots h x) = codes-ifnot h x

  pub placed-fetched : {i : Instr ℕ} {j : Instr Expr} → c.declared ≡ 0 → Placed c s i j → Fetched s c.widths j (instruction_of i)
  unfolding instruction_of
  placed-fetched z (waits h n) = a-wait h
  placed-fetched z (assigns h x) = a-set (stands z x)
  placed-fetched z (laters h x) = a-later (stands z x)
  placed-fetched z (goes h) = a-go
  placed-fetched z (ifnots h x) = an-ifnot (stands z x)

  -- What is a wait by trees is that wait by places.
  pub placed-wait : {i : Instr ℕ} {j : Instr Expr} {ts : List EdgeTerm} → Placed c s i j → j ≡ wait! ts
      → (i ≡ wait! ts) × (length ts ≤ 8) × Names c.widths ts
  placed-wait {ts = ts} (waits {ts = us} h n) e = let q : us ≡ ts = cc in rw (← q) (refl, h, n)
  placed-wait (assigns h x) e = let z : ◌≡◌ {A = ℕ} 0 1 = cc in absurd (omega arith)
  placed-wait (laters h x) e = let z : ◌≡◌ {A = ℕ} 0 1 = cc in absurd (omega arith)
  placed-wait (goes h) e = let z : ◌≡◌ {A = ℕ} 0 1 = cc in absurd (omega arith)
  placed-wait (ifnots h x) e = let z : ◌≡◌ {A = ℕ} 0 1 = cc in absurd (omega arith)

  pub placed_at : {is : List (Instr ℕ)} {js : List (Instr Expr)} → PlacedAll c s is js → (p : ℕ) → Placed c s (get_or is p (go 0)) (get_or js p (go 0))
  placed_at none p = goes {g = 0} (omega arith)
  placed_at (more x xs) zero = x
  placed_at (more x xs) (suc p) = placed_at xs p

  placed-append : {is ks : List (Instr ℕ)} {js ls : List (Instr Expr)} → PlacedAll c s is js → PlacedAll c s ks ls
      → PlacedAll c s (is ++ ks) (js ++ ls)
  placed-append none q = q
  placed-append (more p ps) q = more p (placed-append ps q)

terms-named : {ws s : List ℕ} {n at : ℕ} {ts : List EdgeTerm} → ReadsTerms ws s n at ts → Names ws ts
terms-named no-terms k other h = absurd (not-suc-le-zero h)
terms-named (a-term e h x l ts) zero other m = l
terms-named (a-term e h x l ts) (suc k) other m = terms-named ts k other (le_of_suc-le-suc m)

-- A register's number is below that of the first wire.
register-below : (c : Scope) (t : ℕ) → is_register c t ≡ true → t < c.inputs + c.registers
unfolding is_register
register-below c t h = by (leb c.inputs t) (ltb t (c.inputs + c.registers)) refl h
  where
    by : (a b : Bool) → ltb t (c.inputs + c.registers) ≡ b → (a && b) ≡ true → t < c.inputs + c.registers
    by a true e q = ltb-true t (c.inputs + c.registers) e
    by true false e q = let z : ◌≡◌ {A = ℕ} 0 1 = cc in absurd (omega arith)
    by false false e q = let z : ◌≡◌ {A = ℕ} 0 1 = cc in absurd (omega arith)

-- ---- a statement that was read, whose code ends before place 256

module _ (c : Scope) (s : List ℕ) where
  abbrev pub tree_at : ℕ → Expr
  tree_at = expr_at s c

  read-there : (p : ℕ) {e : Parsed ℕ} → located s c p ≡ ok e → ReadAt c s (tree_at e.item) e.item
  read-there = located-read s c

  module _ (few : c.inputs + c.registers ≤ 256) where
    target : (t : ℕ) → is_register c t ≡ true → t < 256
    target t r = let l = register-below c t r in omega arith

    stmt-placed : {d p : ℕ} {b : Body ℕ} → ReadsStmt (located s) c s d p b → (n : ℕ) → n + size b.stmt ≤ 255
        → PlacedAll c s (translate b.stmt n) (translate (map_stmt tree_at b.stmt) n)
    unfolding translate map_stmt size
    stmt-placed (an-empty l m) n h = none
    stmt-placed (an-assign l m t r e w) n h = more (assigns (target _ r) (read-there _ e)) none
    stmt-placed (a-later l m t r e w) n h = more (laters (target _ r) (read-there _ e)) none
    stmt-placed (a-sequence {a = a} l m x y) n h =
        rw (size-map tree_at a.stmt) (placed-append (stmt-placed x n (omega arith)) (stmt-placed y (n + size a.stmt) (omega arith)))
    stmt-placed (an-if {a = a} l m e x) n h =
        rw (size-map tree_at a.stmt)
        (more (ifnots {g = n + 1 + size a.stmt} (omega arith) (read-there _ e)) (stmt-placed x (n + 1) (omega arith)))
    stmt-placed (an-if-else {a = a} {b = b} l m e x y) n h =
        rw (size-map tree_at a.stmt, size-map tree_at b.stmt)
        (more (ifnots {g = n + 2 + size a.stmt} (omega arith) (read-there _ e))
        (placed-append (stmt-placed x (n + 1) (omega arith))
        (more (goes {g = n + 2 + size a.stmt + size b.stmt} (omega arith)) (stmt-placed y (n + 2 + size a.stmt) (omega arith)))))
    stmt-placed (a-while {a = a} l m e x) n h =
        rw (size-map tree_at a.stmt)
        (more (ifnots {g = n + size a.stmt + 2} (omega arith) (read-there _ e))
        (placed-append (stmt-placed x (n + 1) (omega arith)) (more (goes {g = n} (omega arith)) none)))
    stmt-placed (a-forever l m x) n h = placed-append (stmt-placed x n (omega arith)) (more (goes {g = n} (omega arith)) none)
    stmt-placed (a-wait {ts = vs} m k ts w) n h =
        more (waits {ts = vs} (omega (arith, terms-length ts, k.most)) (terms-named ts)) none

  -- ---- threads

  -- A thread's code by places and by trees, and its size.
  pub record Threaded (a : Stmt ℕ) : Type 0 where
    pub placed : PlacedAll c s (thread_code a) (thread_code (map_stmt tree_at a))
    pub most : size a + 1 ≤ 256

  thread-placed : c.inputs + c.registers ≤ 256 → {d p : ℕ} {b : Body ℕ} → ReadsStmt (located s) c s d p b → size b.stmt + 1 ≤ 256
      → PlacedAll c s (thread_code b.stmt) (thread_code (map_stmt tree_at b.stmt))
  unfolding thread_code translate
  thread-placed few x h = placed-append (stmt-placed few x 0 (omega arith)) (more (goes {g = 0} (omega arith)) none)

  pub threads-placed : c.inputs + c.registers ≤ 256 → (n p : ℕ) {l : Listed (Stmt ℕ)} → read_threads (located s) c s n p ≡ ok l
      → (i : ℕ) → i < length l.items
      → Threaded (get_or l.items i empty)
  unfolding read_threads
  threads-placed few zero p h i = rw (← ok-injective h) (λ l. absurd (not-suc-le-zero l))
  threads-placed few (suc n) p h i =
      let b = bind_ok (read_stmt (located s) c s 64 p) _ h in
      let k = check-ok (leb (size b.0.stmt + 1) 256) 11 p _ b.2 in
      let bs = bind_ok (read_threads (located s) c s n b.0.next) _ k.1 in
      let m = leb-true (size b.0.stmt + 1) 256 k.0 in
      let x : Threaded b.0.stmt =
      record { placed = thread-placed few (derive-stmt (located s) c s 64 p b.1) m; most = m } in
      rw (← ok-injective {a = record { items = b.0.stmt ∷ bs.0.items; next = bs.0.next }} bs.2)
      (by b.0.stmt bs.0.items x (threads-placed few n b.0.next bs.1) i)
    where
      by : (a : Stmt ℕ) (bs : List (Stmt ℕ)) → Threaded a → ((j : ℕ) → j < length bs → Threaded (get_or bs j empty)) → (j : ℕ) → j < length (a ∷ bs)
          → Threaded (get_or (a ∷ bs) j empty)
      by a bs x y zero l = x
      by a bs x y (suc j) l = y j (le_of_suc-le-suc l)
