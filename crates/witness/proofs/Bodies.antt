-- The threads' statements, one after the other: one turn of the loop, and that for an accepted sheet the tests on them are the module's,
-- 16 and 17. Assumes nothing.
use mathlib.Core.Path.{◌≡◌, refl, sym, ap, ◌∙◌}
use mathlib.Core.Bool.{not, ◌&&◌}
use mathlib.Core.List.{List, ◌∷◌}
use Prim.Native.Nat.{ℕ, zero, suc, ◌+◌, ◌≤◌, ◌<◌}
use native.Mathlib.Nat.{not-suc-le-zero, le_of_suc-le-suc}
use native.Mathlib.Numerals.{add-one}
use lib.Dec.{leb}
use lib.ListN.{length, get_or, get_or-map}
use Rattle.sheet.specs.Reading.{ok}
use Rattle.sheet.specs.Expression.{Expr, Scope, located, expr_at}
use Rattle.sheet.specs.Statement.{Stmt, empty, forever, size, map_stmt, read_stmt}
use Rattle.sheet.specs.Module.{Module, Listed, read_threads, Sheet, read_sheet, read}
use Rattle.sheet.specs.Answers.{definitions_of}
use Rattle.sheet.proofs.Reading.{bind_ok, check-ok, ok-injective}
use Rattle.sheet.proofs.Statements.{derive-stmt}
use Rattle.pseudocode.proofs.Skipping.{Counted}
use Rattle.nextstate.specs.Rules.{starts_waiting, loops_wait, body_of}
use Rattle.rules.specs.declared.Waiting.{Waiting}
use Rattle.rules.specs.Walking.{walk_at}
use Rattle.rules.proofs.Expressions.{threads-of}
use Rattle.rules.proofs.Walking.{waiting_of, walks}
use Rattle.rules.proofs.Rules.{counted, threads-same, stmts-same}
use Rattle.witness.specs.declared.BodyTest.TheVariants.{Running, Away}
use Rattle.witness.specs.Witness.{lowest, first_thread}
use Rattle.witness.specs.Seeking.{body_at, by_body}
use Rattle.witness.proofs.Lowest.{lowest-same}

-- ---- one turn of the loop

module _ (s ds : List ℕ) (body : ℕ) where
  pub body-none : body ≡ body_at s ds body 0
  unfolding body_at
  body-none = refl

  pub body-turn : (i : ℕ) {p : ℕ} {w : Waiting} → p ≡ body_at s ds body i → w ≡ walk_at 64 s ds p → w.next ≡ body_at s ds body (i + 1)
  unfolding body_at
  body-turn i e h = rw (add-one i) (ap (λ (w : Waiting). w.next) (h ∙ ap (walk_at 64 s ds) e))

-- From the first statement's end on.
body-front : (s ds : List ℕ) (body i : ℕ) → body_at s ds body (suc i) ≡ body_at s ds (walk_at 64 s ds body).next i
unfolding body_at
body-front s ds body zero = refl
body-front s ds body (suc i) = ap (λ (p : ℕ). (walk_at 64 s ds p).next) (body-front s ds body i)

-- ---- threads that were read

module _ (c : Scope) (s ds : List ℕ) (short : length s ≤ 8192) (counted : Counted s ds c.functions) (f : ℕ → Expr) where
  -- The statement at a place, of which the tree is a.
  abbrev Stands : ℕ → Stmt ℕ → Type 0
  Stands p a = (q : ℕ) × (walk_at 64 s ds p ≡ waiting_of q (map_stmt f a))

  stands : (n p : ℕ) {l : Listed (Stmt ℕ)} → read_threads (located s) c s n p ≡ ok l → (i : ℕ) → i < length l.items
      → Stands (body_at s ds p i) (get_or l.items i empty)
  unfolding read_threads body_at waiting_of
  stands zero p h i = rw (← ok-injective h) (λ l. absurd (not-suc-le-zero l))
  stands (suc n) p h i =
      let b = bind_ok (read_stmt (located s) c s 64 p) _ h in
      let k = check-ok (leb (size b.0.stmt + 1) 256) 11 p _ b.2 in
      let bs = bind_ok (read_threads (located s) c s n b.0.next) _ k.1 in
      let a = walks c s ds short counted f (derive-stmt (located s) c s 64 p b.1) in
      rw (← ok-injective {a = record { items = b.0.stmt ∷ bs.0.items; next = bs.0.next }} bs.2)
      (by p b.0.next b.0.stmt bs.0.items a (stands n b.0.next bs.1) i)
    where
      by : (p q : ℕ) (a : Stmt ℕ) (bs : List (Stmt ℕ)) → walk_at 64 s ds p ≡ waiting_of q (map_stmt f a)
          → ((j : ℕ) → j < length bs → Stands (body_at s ds q j) (get_or bs j empty)) → (j : ℕ) → j < length (a ∷ bs)
          → Stands (body_at s ds p j) (get_or (a ∷ bs) j empty)
      by p q a bs x y zero l = (q, x)
      by p q a bs x y (suc j) l =
          rw (body-front s ds p j ∙ ap (λ (w : Waiting). body_at s ds w.next j) x) (y j (le_of_suc-le-suc l))

-- ---- an accepted sheet

module _ (s : List ℕ) (x : Sheet ℕ) (m : Module Expr) (h : read_sheet (located s) s ≡ ok x) (e : read s ≡ ok m) where
  abbrev at : ℕ → Expr
  at = expr_at s x.contents.scope

  abbrev ds : List ℕ
  ds = definitions_of x.definitions

  tree-at : (i : ℕ) → map_stmt at (get_or x.contents.threads i empty) ≡ body_of m i
  unfolding body_of map_stmt
  tree-at i =
      sym (get_or-map (map_stmt at) x.contents.threads i empty)
      ∙ ap (λ (ts : List (Stmt Expr)). get_or ts i empty) (stmts-same s x m h e)

  stands_at : (i : ℕ) → i < length m.threads → (q : ℕ) × (walk_at 64 s ds (body_at s ds x.body i) ≡ waiting_of q (body_of m i))
  stands_at i k =
      let t = threads-of s x h in
      let n : i < length t.list.items = rw (t.items, threads-same s x m h e) k in
      let y = stands x.contents.scope s ds t.short (counted s x m h e) at (length x.contents.threads) x.body t.from-body i n in
      (y.0, y.1 ∙ ap (waiting_of y.0) (ap (λ (ts : List (Stmt ℕ)). map_stmt at (get_or ts i empty)) t.items ∙ tree-at i))

  running-at : (i : ℕ) → i < length m.threads → by_body s ds x.body Running i ≡ not (starts_waiting (body_of m i))
  unfolding by_body waiting_of
  running-at i k = ap (λ (w : Waiting). not w.starts) (stands_at i k).1

  away-at : (i : ℕ) → i < length m.threads → by_body s ds x.body Away i ≡ not (loops_wait (forever (body_of m i)))
  unfolding by_body waiting_of loops_wait
  away-at i k = ap (λ (w : Waiting). not (w.surely && w.loops)) (stands_at i k).1

  pub running-same : lowest (length m.threads) (by_body s ds x.body Running) ≡ first_thread m (λ i. not (starts_waiting (body_of m i)))
  running-same = lowest-same (by_body s ds x.body Running) (λ i. not (starts_waiting (body_of m i))) (length m.threads) running-at

  pub away-same : lowest (length m.threads) (by_body s ds x.body Away) ≡ first_thread m (λ i. not (loops_wait (forever (body_of m i))))
  away-same = lowest-same (by_body s ds x.body Away) (λ i. not (loops_wait (forever (body_of m i)))) (length m.threads) away-at
