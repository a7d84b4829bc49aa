-- An expression, a wire, a thread take two bytes for each of their nodes, so that the nodes of a sheet have room. Assumes nothing.
use mathlib.Core.Path.{◌≡◌}
use mathlib.Core.List.{List, [], ◌∷◌, ◌++◌}
use Prim.Native.Nat.{ℕ, zero, suc, ◌+◌, ◌*◌, ◌≤◌}
use native.Mathlib.Omega.{arith}
use lib.Dec.{leb, eqb}
use lib.ListN.{length, get_or}
use Rattle.sheet.specs.Reading.{ok}
use Rattle.sheet.specs.Expression.{Expr, Scope, Parsed, tree, located, expr_at}
use Rattle.sheet.specs.Statement.{Stmt, size, map_stmt, Body, read_stmt}
use Rattle.sheet.specs.Module.{Listed, read_wires, read_threads}
use Rattle.sheet.proofs.Reading.{bind_ok, check-ok, ok-injective}
use Rattle.sheet.proofs.Expression as reading
use Rattle.sheet.proofs.Expression.{Reads, reads-after, derive}
use Rattle.sheet.proofs.Statements.{terms-length, ReadsStmt, an-empty, an-assign, a-later, a-sequence, an-if, an-if-else, a-while}
use Rattle.sheet.proofs.Statements.{a-forever, a-wait, derive-stmt}
use Rattle.sheet.proofs.Trees.{expr-at}
use Rattle.pseudocode.specs.Translation.{Instr, wait!, set!, later!, go, ifnot, translate, thread_code}
use Rattle.plan_exprs.proofs.Flatten.{count}
use Rattle.plan_fill.proofs.Kept.{sum_over}

-- ---- how many nodes an instruction has, and a thread

unfoldable pub nodes_of : Instr Expr → ℕ
nodes_of (wait! ts) = length ts
nodes_of (set! t e) = count e
nodes_of (later! t e) = count e
nodes_of (go g) = 0
nodes_of (ifnot e g) = count e

abbrev pub total : List (Instr Expr) → ℕ
total is = sum_over nodes_of is

total-append : (is js : List (Instr Expr)) → total (is ++ js) ≡ total is + total js
unfolding sum_over
total-append [] js = omega arith
total-append (i ∷ is) js = let e = total-append is js in omega arith

-- ---- an expression

-- By its depth; a call has no nodes.
expr-room : {c : Scope} {s : List ℕ} (d : ℕ) {p : ℕ} {q : Parsed Expr} → Reads c s d p q → p + 2 * count q.item ≤ q.next
unfolding count
expr-room {c = c} {s = s} zero {p = p} {q = q} x' = elim x' [ ]
expr-room (suc d) (reading.a-variable m h e l) = omega arith
expr-room (suc d) (reading.a-constant m w h e l) = omega arith
expr-room (suc d) (reading.an-unknown m w) = omega arith
expr-room (suc d) (reading.a-unary m o a) = let x = expr-room d a in omega arith
expr-room (suc d) (reading.a-binary m o a b e) = let x = expr-room d a in let y = expr-room d b in omega arith
expr-room (suc d) (reading.a-conditional m o q a b e) =
    let z = expr-room d q in let x = expr-room d a in let y = expr-room d b in omega arith
expr-room (suc d) (reading.a-call m h e l f es w) =
    let x = reads-after (reading.a-call {d = d} m h e l f es w) in omega arith

located-room : (s : List ℕ) (c : Scope) (p : ℕ) {e : Parsed ℕ} → located s c p ≡ ok e → p + 2 * count (expr_at s c e.item) ≤ e.next
unfolding located tree
located-room s c p h =
    let t = bind_ok (tree s c p) _ h in
    let r = expr-room 16 (derive c s 16 p t.1) in
    rw (← ok-injective t.2) (rw (expr-at s c p t.1) r)

-- ---- a statement

module _ (c : Scope) (s : List ℕ) where
  abbrev tree_at : ℕ → Expr
  tree_at = expr_at s c

  stmt-room : {d p : ℕ} {b : Body ℕ} → ReadsStmt (located s) c s d p b → (n : ℕ)
      → 2 * total (translate (map_stmt tree_at b.stmt) n) + p ≤ b.next
  unfolding translate map_stmt sum_over nodes_of
  stmt-room (an-empty l m) n = omega arith
  stmt-room (an-assign l m t r e w) n = let x = located-room s c _ e in omega arith
  stmt-room (a-later l m t r e w) n = let x = located-room s c _ e in omega arith
  stmt-room (a-sequence {a = a} {b = b} l m x y) n =
      let k = n + size (map_stmt tree_at a.stmt) in
      let u = stmt-room x n in
      let v = stmt-room y k in
      let w = total-append (translate (map_stmt tree_at a.stmt) n) (translate (map_stmt tree_at b.stmt) k) in
      omega arith
  stmt-room (an-if l m e x) n = let w = located-room s c _ e in let u = stmt-room x (n + 1) in omega arith
  stmt-room (an-if-else {a = a} {b = b} l m e x y) n =
      let i = size (map_stmt tree_at a.stmt) in
      let j = size (map_stmt tree_at b.stmt) in
      let w = located-room s c _ e in
      let u = stmt-room x (n + 1) in
      let v = stmt-room y (n + 2 + i) in
      let z = total-append (translate (map_stmt tree_at a.stmt) (n + 1))
      (go (n + 2 + i + j) ∷ translate (map_stmt tree_at b.stmt) (n + 2 + i)) in
      omega arith
  stmt-room (a-while {a = a} l m e x) n =
      let w = located-room s c _ e in
      let u = stmt-room x (n + 1) in
      let z = total-append (translate (map_stmt tree_at a.stmt) (n + 1)) (go n ∷ []) in
      omega arith
  stmt-room (a-forever {a = a} l m x) n =
      let u = stmt-room x n in
      let z = total-append (translate (map_stmt tree_at a.stmt) n) (go n ∷ []) in
      omega arith
  stmt-room (a-wait m k ts w) n = let l = terms-length ts in omega arith

  thread-room : {d p : ℕ} {b : Body ℕ} → ReadsStmt (located s) c s d p b → 2 * total (thread_code (map_stmt tree_at b.stmt)) + p ≤ b.next
  unfolding thread_code translate sum_over nodes_of
  thread-room {b = b} x =
      let u = stmt-room x 0 in
      let z = total-append (translate (map_stmt tree_at b.stmt) 0) (go 0 ∷ []) in
      omega arith

  -- ---- all wires, all threads

  pub wires-room : (n v p : ℕ) {l : Listed ℕ} → read_wires (located s) c s n v p ≡ ok l
      → 2 * sum_over (λ q. count (tree_at q)) l.items + p ≤ l.next
  unfolding read_wires sum_over
  wires-room zero v p h = rw (← ok-injective h) (omega arith)
  wires-room (suc n) v p h =
      let e = bind_ok (located s c p) _ h in
      let w = check-ok (eqb e.0.width (get_or c.widths v 0)) 8 p _ e.2 in
      let es = bind_ok (read_wires (located s) c s n (v + 1) e.0.next) _ w.1 in
      let x = located-room s c p e.1 in
      let y = wires-room n (v + 1) e.0.next es.1 in
      rw (← ok-injective es.2) (omega arith)

  pub threads-room : (n p : ℕ) {l : Listed (Stmt ℕ)} → read_threads (located s) c s n p ≡ ok l
      → 2 * sum_over (λ a. total (thread_code (map_stmt tree_at a))) l.items + p ≤ l.next
  unfolding read_threads sum_over
  threads-room zero p h = rw (← ok-injective h) (omega arith)
  threads-room (suc n) p h =
      let b = bind_ok (read_stmt (located s) c s 64 p) _ h in
      let k = check-ok (leb (size b.0.stmt + 1) 256) 11 p _ b.2 in
      let bs = bind_ok (read_threads (located s) c s n b.0.next) _ k.1 in
      let x = thread-room (derive-stmt (located s) c s 64 p b.1) in
      let y = threads-room n b.0.next bs.1 in
      rw (← ok-injective {a = record { items = b.0.stmt ∷ bs.0.items; next = bs.0.next }} bs.2) (omega arith)
