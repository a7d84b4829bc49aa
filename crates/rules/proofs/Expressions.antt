-- The expressions of a thread's instructions, as they were read: by their places, as the code table keeps them, and by their trees.
-- Assumes nothing.
use mathlib.Core.Path.{◌≡◌, refl, ap, ◌∙◌, subst}
use mathlib.Core.List.{List, [], ◌∷◌, ◌++◌, map}
use Prim.Native.Nat.{ℕ, zero, suc, ◌+◌, ◌≤◌, ◌<◌}
use native.Mathlib.Nat.{not-suc-le-zero, le_of_suc-le-suc}
use native.Mathlib.Omega.{arith}
use lib.ListN.{length, get_or, length-map, get_or-map}
use lib.Dec.{leb, eqb}
use borrow.Author.Tests.{leb-true}
use Rattle.sheet.specs.declared.EdgeTerm.{EdgeTerm}
use Rattle.sheet.specs.Reading.{ok}
use Rattle.sheet.specs.Expression.{Expr, Scope, located, expr_at}
use Rattle.sheet.specs.Statement.{Stmt, empty, size, map_stmt, Body, read_stmt}
use Rattle.sheet.specs.Functions.{read_functions}
use Rattle.sheet.specs.Module.{Module, map_module, Listed, read_head, with_functions, read_wires, read_threads, Sheet, whole_sheet, read_sheet, read}
use Rattle.sheet.specs.Answers.{definitions_of}
use Rattle.sheet.proofs.Reading.{bind_ok, check-ok, ok-injective}
use Rattle.sheet.proofs.Sections.{threads-count}
use Rattle.sheet.proofs.Statements.{ReadsStmt, an-empty, an-assign, a-later, a-sequence, an-if, an-if-else, a-while, a-forever, a-wait, derive-stmt}
use Rattle.sheet.proofs.Trees.{trees}
use Rattle.sheet.proofs.Closed.{whole}
use Rattle.pseudocode.specs.declared.EdgeTerms.{EdgeTerms}
use Rattle.pseudocode.specs.declared.Action.TheVariants.{Set, Later, Go, IfNot}
use Rattle.pseudocode.specs.declared.Instruction.{Instruction}
use Rattle.pseudocode.specs.declared.Instruction.TheVariants.{Wait, Act}
use Rattle.pseudocode.specs.Translation.{Instr, wait!, set!, later!, go, ifnot, translate, thread_code, map_instr}
use Rattle.pseudocode.specs.Instruction.{instruction_of}
use Rattle.pseudocode.specs.Compiling.{Compiled, compile_at}
use Rattle.pseudocode.specs.Fetching.{fetch_at}
use Rattle.pseudocode.proofs.Translation.{thread_code-size, thread_code-map}
use Rattle.pseudocode.proofs.Skipping.{Counted}
use Rattle.pseudocode.proofs.Compiling.{compile-law, sheet-counted}
use Rattle.events.specs.Cycle.{code_of}
use Rattle.tables.proofs.Marking.{ReadAt}
use Rattle.tables.proofs.Placing.{located-read}
use Rattle.tables.proofs.Holding.{module-same}

-- ---- an instruction of a module's code, and the one that was fetched for it: its expression was read at that place

pub data Expressed (c : Scope) (s : List ℕ) : Instr Expr → Instruction → Type 0 where
  of-wait : {ts : List EdgeTerm} {t : EdgeTerms} → Expressed c s (wait! ts) (Wait t)
  of-set : {t p : ℕ} {e : Expr} → ReadAt c s e p → Expressed c s (set! t e) (Act (Set t p))
  of-later : {t p : ℕ} {e : Expr} → ReadAt c s e p → Expressed c s (later! t e) (Act (Later t p))
  of-go : {g h : ℕ} → Expressed c s (go g) (Act (Go h))
  of-ifnot : {g h p : ℕ} {e : Expr} → ReadAt c s e p → Expressed c s (ifnot e g) (Act (IfNot h p))

-- ---- a property of each instruction of a list

data Each (P : Instr ℕ → Type 0) : List (Instr ℕ) → Type 0 where
  none : Each P []
  more : {i : Instr ℕ} {is : List (Instr ℕ)} → P i → Each P is → Each P (i ∷ is)

module _ {P : Instr ℕ → Type 0} where
  each_append : {is js : List (Instr ℕ)} → Each P is → Each P js → Each P (is ++ js)
  each_append none q = q
  each_append (more p ps) q = more p (each_append ps q)

  each_at : {is : List (Instr ℕ)} → Each P is → P (go 0) → (p : ℕ) → P (get_or is p (go 0))
  each_at none q p = q
  each_at (more x xs) q zero = x
  each_at (more x xs) q (suc p) = each_at xs q p

-- ---- a statement that was read

module _ (c : Scope) (s : List ℕ) where
  abbrev tree_at : ℕ → Expr
  tree_at = expr_at s c

  -- The instruction by the places of its expression, and the same by trees.
  abbrev ByTree : Instr ℕ → Type 0
  ByTree i = Expressed c s (map_instr tree_at i) (instruction_of i)

  go-each : (g : ℕ) → Each ByTree (go g ∷ [])
  unfolding map_instr instruction_of
  go-each g = more of-go none

  go-each-then : (g : ℕ) {is : List (Instr ℕ)} → Each ByTree is → Each ByTree (go g ∷ is)
  unfolding map_instr instruction_of
  go-each-then g q = more of-go q

  stmt-each : {d p : ℕ} {b : Body ℕ} → ReadsStmt (located s) c s d p b → (n : ℕ) → Each ByTree (translate b.stmt n)
  unfolding translate map_instr instruction_of
  stmt-each (an-empty l m) n = none
  stmt-each (an-assign l m t r e w) n = more (of-set (located-read s c _ e)) none
  stmt-each (a-later l m t r e w) n = more (of-later (located-read s c _ e)) none
  stmt-each (a-sequence {a = a} l m x y) n = each_append (stmt-each x n) (stmt-each y (n + size a.stmt))
  stmt-each (an-if {a = a} l m e x) n = more (of-ifnot (located-read s c _ e)) (stmt-each x (n + 1))
  stmt-each (an-if-else {a = a} {b = b} l m e x y) n =
      more (of-ifnot (located-read s c _ e))
      (each_append (stmt-each x (n + 1))
      (go-each-then (n + 2 + size a.stmt + size b.stmt) (stmt-each y (n + 2 + size a.stmt))))
  stmt-each (a-while l m e x) n = more (of-ifnot (located-read s c _ e)) (each_append (stmt-each x (n + 1)) (go-each n))
  stmt-each (a-forever l m x) n = each_append (stmt-each x n) (go-each n)
  stmt-each (a-wait m k ts w) n = more of-wait none

  thread-each : {d p : ℕ} {b : Body ℕ} → ReadsStmt (located s) c s d p b → Each ByTree (thread_code b.stmt)
  unfolding thread_code translate
  thread-each x = each_append (stmt-each x 0) (go-each 0)

  -- ---- threads that were read

  threads-each : (n p : ℕ) {l : Listed (Stmt ℕ)} → read_threads (located s) c s n p ≡ ok l → (i : ℕ) → i < length l.items
      → Each ByTree (thread_code (get_or l.items i empty))
  unfolding read_threads
  threads-each zero p h i = rw (← ok-injective h) (λ l. absurd (not-suc-le-zero l))
  threads-each (suc n) p h i =
      let b = bind_ok (read_stmt (located s) c s 64 p) _ h in
      let k = check-ok (leb (size b.0.stmt + 1) 256) 11 p _ b.2 in
      let bs = bind_ok (read_threads (located s) c s n b.0.next) _ k.1 in
      let x = thread-each (derive-stmt (located s) c s 64 p b.1) in
      rw (← ok-injective {a = record { items = b.0.stmt ∷ bs.0.items; next = bs.0.next }} bs.2)
      (by b.0.stmt bs.0.items x (threads-each n b.0.next bs.1) i)
    where
      by : (a : Stmt ℕ) (bs : List (Stmt ℕ)) → Each ByTree (thread_code a)
          → ((j : ℕ) → j < length bs → Each ByTree (thread_code (get_or bs j empty))) → (j : ℕ) → j < length (a ∷ bs)
          → Each ByTree (thread_code (get_or (a ∷ bs) j empty))
      by a bs x y zero l = x
      by a bs x y (suc j) l = y j (le_of_suc-le-suc l)

-- ---- the threads of a sheet that was accepted

pub record Threads (s : List ℕ) (r : Sheet ℕ) : Type 0 where
  pub short : length s ≤ 8192
  pub list : Listed (Stmt ℕ)
  pub items : list.items ≡ r.contents.threads
  pub from-body : read_threads (located s) r.contents.scope s (length r.contents.threads) r.body ≡ ok list

pub threads-of : (s : List ℕ) (r : Sheet ℕ) → read_sheet (located s) s ≡ ok r → Threads s r
unfolding whole_sheet
threads-of s r h =
    let k = check-ok (leb (length s) 8192) 1 8192 _ (whole (located s) s h) in
    let hd = bind_ok (read_head s) _ k.1 in
    let n = hd.0.scope.declared in
    let fs = bind_ok (read_functions n n [] s hd.0.next) _ hd.2 in
    let c = with_functions hd.0.scope fs.0.functions in
    let es = bind_ok (read_wires (located s) c s hd.0.wires (c.inputs + c.registers) fs.0.next) _ fs.2 in
    let ts = bind_ok (read_threads (located s) c s hd.0.threads es.0.next) _ es.2 in
    let z = check-ok (eqb ts.0.next (length s)) 10 ts.0.next _ ts.2 in
    let count = threads-count (located s) c s hd.0.threads es.0.next ts.1 in
    rw (← ok-injective z.1)
    (record {
      short = leb-true (length s) 8192 k.0;
      list = ts.0;
      items = refl;
      from-body = rw (← count) ts.1;
    })

-- ---- the expressions of an accepted sheet's instructions

module _ (s code : List ℕ) (r : Sheet ℕ) (h : read_sheet (located s) s ≡ ok r) (long : length code ≡ 4096) where
  abbrev at : ℕ → Expr
  at = expr_at s r.contents.scope

  abbrev stmts : List (Stmt ℕ)
  stmts = r.contents.threads

  abbrev table : Compiled
  table = compile_at s (definitions_of r.definitions) (length r.contents.threads) r.body code

  stmt-at : (i : ℕ) → get_or (map (map_stmt at) stmts) i empty ≡ map_stmt at (get_or stmts i empty)
  unfolding map_stmt
  stmt-at i = get_or-map (map_stmt at) stmts i empty

  code_at : (i : ℕ) → thread_code (get_or (map (map_stmt at) stmts) i empty) ≡ map (map_instr at) (thread_code (get_or stmts i empty))
  code_at i = ap thread_code (stmt-at i) ∙ thread_code-map at (get_or stmts i empty)

  instr-at : (i p : ℕ)
      → get_or (thread_code (get_or (map (map_stmt at) stmts) i empty)) p (go 0) ≡ map_instr at (get_or (thread_code (get_or stmts i empty)) p (go 0))
  unfolding map_instr
  instr-at i p = ap (λ c. get_or c p (go 0)) (code_at i) ∙ get_or-map (map_instr at) (thread_code (get_or stmts i empty)) p (go 0)

  each-thread : (i : ℕ) → i < length stmts → Each (ByTree r.contents.scope s) (thread_code (get_or stmts i empty))
  each-thread i l =
      let t = threads-of s r h in
      let k : i < length t.list.items = rw t.items l in
      rw (← t.items) (threads-each r.contents.scope s (length stmts) r.body t.from-body i k)

  expressed-tree : (i p : ℕ) → i < length stmts → p < size (get_or stmts i empty) + 1
      → Expressed r.contents.scope s (get_or (thread_code (get_or (map (map_stmt at) stmts) i empty)) p (go 0)) (fetch_at s table.code i p)
  unfolding map_instr instruction_of
  expressed-tree i p l k =
      rw (instr-at i p, (compile-law s code r h long).fetched i p l k)
      (each_at (each-thread i l) of-go p)

-- An instruction of the module's code, and what is fetched for it; the definitions of the functions stand at the places ds.
pub record Expressions (s ds : List ℕ) (m : Module Expr) (code : List ℕ) : Type 0 where
  pub counted : Counted s ds m.scope.functions
  pub at : (i p : ℕ) → i < length m.threads → p < length (code_of m i)
      → Expressed m.scope s (get_or (code_of m i) p (go 0)) (fetch_at s code i p)

module _ (s code : List ℕ) (r : Sheet ℕ) (h : read_sheet (located s) s ≡ ok r) (long : length code ≡ 4096) where
  abbrev places : List ℕ
  places = definitions_of r.definitions

  tree-expressed : Expressions s places (trees s r).contents (compile_at s places (length r.contents.threads) r.body code).code
  unfolding trees map_module code_of
  tree-expressed =
      record {
        counted = sheet-counted (located s) s h;
        at = λ i p l k.
            let f = expr_at s r.contents.scope in
            let a = get_or r.contents.threads i empty in
            let n = length-map r.contents.threads (map_stmt f) in
            let c = ap length (code_at s code r h long i) ∙ length-map (thread_code a) (map_instr f) ∙ thread_code-size a in
            expressed-tree s code r h long i p (omega arith) (omega arith);
      }

pub expressed : (s code : List ℕ) (r : Sheet ℕ) (m : Module Expr) → read_sheet (located s) s ≡ ok r → read s ≡ ok m → length code ≡ 4096
    → let ds = definitions_of r.definitions in Expressions s ds m (compile_at s ds (length r.contents.threads) r.body code).code
expressed s code r m h e long =
    let ds = definitions_of r.definitions in
    subst (λ (n : Module Expr). Expressions s ds n (compile_at s ds (length r.contents.threads) r.body code).code) (module-same s r m h e)
    (tree-expressed s code r h long)
