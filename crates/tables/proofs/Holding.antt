-- The tables that the code fills from an accepted sheet hold what specs/Holding says. Assumes nothing.
use mathlib.Core.Path.{◌≡◌, refl, sym, ap, ◌∙◌, subst}
use mathlib.Core.Bool.{Bool, true, false}
use mathlib.Core.List.{List, [], ◌∷◌, map}
use Prim.Native.Nat.{ℕ, zero, suc, ◌+◌, ◌≤◌, ◌<◌}
use native.Mathlib.Nat.{not-suc-le-zero, le_of_suc-le-suc, le_refl}
use native.Mathlib.Omega.{arith}
use lib.ListN.{length, get_or, drop, length-map, replicate, get_or-map, get_or-append, get_or-eq_default}
use lib.Seq.{sets-eq}
use lib.Dec.{ltb, eqb}
use borrow.Author.Tests.{ltb-true, ltb-false}
use Rattle.sheet.specs.declared.EdgeTerm.{EdgeTerm}
use Rattle.sheet.specs.Reading.{ok}
use Rattle.sheet.specs.Expression.{Expr, unknown, Scope, located, expr_at}
use Rattle.sheet.specs.Statement.{Stmt, empty, size, map_stmt}
use Rattle.sheet.specs.Module.{Module, map_module, Listed, read_wires, Sheet, read_sheet, read}
use Rattle.sheet.specs.Answers.{starts_of, definitions_of}
use Rattle.sheet.proofs.Reading.{bind_ok, check-ok, ok-injective}
use Rattle.sheet.proofs.Sections.{wires-count, threads-count, headed}
use Rattle.sheet.proofs.Closed.{unfunctioned}
use Rattle.sheet.proofs.Trees.{map_res, size-map, trees, read-located}
use Rattle.evaluation.specs.Evaluation.{reads}
use Rattle.pseudocode.specs.Translation.{Instr, wait!, go, thread_code}
use Rattle.pseudocode.specs.Instruction.{no_term, terms_of, instruction_of}
use Rattle.pseudocode.specs.declared.Instruction.TheVariants.{Wait}
use Rattle.pseudocode.specs.Compiling.{Compiled, compile_at}
use Rattle.pseudocode.specs.Fetching.{term_at, fetch_at}
use Rattle.pseudocode.proofs.Sheets.{scope_with, sections, head-widths}
use Rattle.pseudocode.proofs.Skipping.{Counted}
use Rattle.pseudocode.proofs.Translation.{thread_code-size}
use Rattle.pseudocode.proofs.Fetching.{term_of}
use Rattle.pseudocode.proofs.Compiling.{Compiles, sheet-counted, compile-law}
use Rattle.tables.specs.Readers.{at_most, readers_below, watched_below}
use Rattle.tables.specs.Holding.{Fetched, Holding}
use Rattle.tables.proofs.Readers.{at_most-same}
use Rattle.tables.proofs.Marking.{ReadAt, Below, below}
use Rattle.tables.proofs.Watching.{watched-named}
use Rattle.tables.proofs.Placing.{stands, located-read, Coded, placed-coded, placed-fetched, placed-wait, placed_at}
use Rattle.tables.proofs.Placing.{Threaded, threads-placed}

-- An element of a list is the same whatever stands for none.
get_d_any : {A : Type 0} (xs : List A) (k : ℕ) (a b : A) → k < length xs → get_or xs k a ≡ get_or xs k b
get_d_any [] k a b h = absurd (not-suc-le-zero h)
get_d_any (x ∷ xs) zero a b h = refl
get_d_any (x ∷ xs) (suc k) a b h = get_d_any xs k a b (le_of_suc-le-suc h)

-- ---- an accepted sheet: its counts, and what was read at each place that is kept

-- What was read at place p is the tree there.
abbrev pub Wired : Scope → List ℕ → ℕ → Type 0
Wired c s p = ReadAt c s (expr_at s c p) p

pub record Accepted (s : List ℕ) (r : Sheet ℕ) : Type 0 where
  pub closed : r.contents.scope.declared ≡ 0
  pub counted : Counted s (definitions_of r.definitions) r.contents.scope.functions
  pub widths : length r.contents.scope.widths ≤ 80
  pub wires : length r.contents.wires ≤ 32
  pub threads : length r.contents.threads ≤ 8
  pub wire : (k : ℕ) → k < length r.contents.wires → Wired r.contents.scope s (get_or r.contents.wires k 0)
  pub thread : (i : ℕ) → i < length r.contents.threads → Threaded r.contents.scope s (get_or r.contents.threads i empty)

module _ (c : Scope) (s : List ℕ) where
  wires-placed : (n v p : ℕ) {l : Listed ℕ} → read_wires (located s) c s n v p ≡ ok l → (k : ℕ) → k < length l.items
      → Wired c s (get_or l.items k 0)
  unfolding read_wires
  wires-placed zero v p h k = rw (← ok-injective h) (λ l. absurd (not-suc-le-zero l))
  wires-placed (suc n) v p h k =
      let e = bind_ok (located s c p) _ h in
      let w = check-ok (eqb e.0.width (get_or c.widths v 0)) 8 p _ e.2 in
      let es = bind_ok (read_wires (located s) c s n (v + 1) e.0.next) _ w.1 in
      let x = located-read s c p e.1 in
      rw (← ok-injective es.2) (by e.0.item es.0.items x (wires-placed n (v + 1) e.0.next es.1) k)
    where
      by : (p : ℕ) (ps : List ℕ) → Wired c s p → ((j : ℕ) → j < length ps → Wired c s (get_or ps j 0)) → (j : ℕ) → j < length (p ∷ ps)
          → Wired c s (get_or (p ∷ ps) j 0)
      by p ps x y zero l = x
      by p ps x y (suc j) l = y j (le_of_suc-le-suc l)

pub accepted : (s : List ℕ) (r : Sheet ℕ) → read_sheet (located s) s ≡ ok r → Accepted s r
accepted s r e =
    let x = sections (located s) s e in
    let c = scope_with x.head x.functions in
    let h = headed s x.head-read in
    let few : c.inputs + c.registers ≤ 256 = omega (arith, h.inputs-most, h.registers-most) in
    let w = wires-count (located s) c s x.head.wires (c.inputs + c.registers) x.functions.next x.wires-read in
    let t = threads-count (located s) c s x.head.threads x.wires.next x.threads-read in
    let z = (unfunctioned (located s) s e).0 in
    let counted = sheet-counted (located s) s e in
    record {
      closed = z;
      counted = counted;
      widths = rw x.made (head-widths s x.head h);
      wires = rw x.made (omega (arith, w, h.wires-most));
      threads = rw x.made (omega (arith, t, h.threads-most));
      wire = rw x.made (wires-placed c s x.head.wires (c.inputs + c.registers) x.functions.next x.wires-read);
      thread = rw x.made (threads-placed c s few x.head.threads x.wires.next x.threads-read);
    }

-- ---- the places of the wires

starts-at : (ps : List ℕ) (k : ℕ) → length ps ≤ 32 → k < length ps → get_or (starts_of ps) k 0 ≡ get_or ps k 0
unfolding starts_of
starts-at ps k h l =
    ap (λ (l : List ℕ). get_or l k 0) (sets-eq ps (replicate 32 0) 0 (omega arith))
    ∙ get_or-append ps (drop (0 + length ps) (replicate 32 0)) 0 k l

-- ---- the tables of an accepted sheet

module _ (s code : List ℕ) (r : Sheet ℕ) (x : Accepted s r) where
  abbrev sc : Scope
  sc = r.contents.scope

  abbrev ds : List ℕ
  ds = definitions_of r.definitions

  abbrev at : ℕ → Expr
  at = expr_at s sc

  abbrev wires : List Expr
  wires = map at r.contents.wires

  abbrev threads : List (Stmt Expr)
  threads = map (map_stmt at) r.contents.threads

  abbrev starts : List ℕ
  starts = starts_of r.contents.wires

  -- ---- wires

  pub wire-read : (k : ℕ) → k < length wires → ReadAt sc s (get_or wires k (unknown 1)) (get_or starts k 0)
  wire-read k h =
      let n = length-map r.contents.wires at in
      let l : k < length r.contents.wires = omega arith in
      let q = x.wire k l in
      let e = get_d_any wires k (unknown 1) (at 0) h ∙ get_or-map at r.contents.wires k 0 in
      (q.0, rw (starts-at r.contents.wires k x.wires l) q.1, q.2 ∙ sym e)

  pub marked : Below (λ k. reads (get_or wires k (unknown 1))) (length wires) (readers_below s ds starts (length wires) (replicate 80 0))
  marked =
      let n = length-map r.contents.wires at in
      let m = x.wires in
      below (λ k. get_or wires k (unknown 1)) sc s ds starts (length wires) x.counted x.widths (omega arith) wire-read (length wires) (le_refl (length wires))

  -- ---- threads

  pub thread-at : (i : ℕ) → get_or threads i empty ≡ map_stmt at (get_or r.contents.threads i empty)
  unfolding map_stmt
  thread-at i = get_or-map (map_stmt at) r.contents.threads i empty

  pub thread-below : (i : ℕ) → i < length threads → i < length r.contents.threads
  thread-below i h = let n = length-map r.contents.threads (map_stmt at) in omega arith

  pub thread-size : (i : ℕ) → length (thread_code (get_or threads i empty)) ≡ size (get_or r.contents.threads i empty) + 1
  thread-size i =
      let a = get_or r.contents.threads i empty in
      ap (λ (b : Stmt Expr). length (thread_code b)) (thread-at i)
      ∙ thread_code-size (map_stmt at a)
      ∙ ap (λ (n : ℕ). n + 1) (size-map at a)

  abbrev table : Compiled
  table = compile_at s ds (length r.contents.threads) r.body code

  module _ (z : Compiles s r.contents.threads table) where
    pub size-at : (i : ℕ) → i < length threads → get_or table.sizes i 0 ≡ length (thread_code (get_or threads i empty))
    size-at i h = z.size-of i (thread-below i h) ∙ sym (thread-size i)

    pub coded-at : (i p : ℕ) → i < length threads → p < length (thread_code (get_or threads i empty))
        → Coded sc s (get_or (thread_code (get_or threads i empty)) p (go 0)) (fetch_at s table.code i p)
    coded-at i p h l =
        let n = thread-size i in
        let b = thread-below i h in
        rw (z.fetched i p b (omega arith), thread-at i) (placed-coded (placed_at (x.thread i b).placed p))

    fetched-at : (i p : ℕ) → i < length threads → p < length (thread_code (get_or threads i empty))
        → Fetched s sc.widths (get_or (thread_code (get_or threads i empty)) p (go 0)) (fetch_at s table.code i p)
    fetched-at i p h l =
        let n = thread-size i in
        let b = thread-below i h in
        rw (z.fetched i p b (omega arith), thread-at i) (placed-fetched x.closed (placed_at (x.thread i b).placed p))

    -- A place past the code has no wait.
    wait-below : (i p : ℕ) {ts : List EdgeTerm} → get_or (thread_code (get_or threads i empty)) p (go 0) ≡ wait! ts
        → p < length (thread_code (get_or threads i empty))
    wait-below i p {ts} e = by (ltb p (length (thread_code (get_or threads i empty)))) refl
      where
        by : (t : Bool) → ltb p (length (thread_code (get_or threads i empty))) ≡ t → p < length (thread_code (get_or threads i empty))
        by true q = ltb-true p _ q
        by false q =
            let g : ◌≡◌ {A = Instr Expr} (go 0) (wait! ts) = sym (get_or-eq_default (thread_code (get_or threads i empty)) (go 0) (ltb-false p _ q)) ∙ e in
            let o : ◌≡◌ {A = ℕ} 0 1 = cc in
            absurd (omega arith)

    named-at : (i p : ℕ) {ts : List EdgeTerm} (k : ℕ) (other : EdgeTerm) → i < length threads
        → get_or (thread_code (get_or threads i empty)) p (go 0) ≡ wait! ts → k < length ts
        → get_or (watched_below s table.code table.sizes (length threads) (replicate 80 false)) (get_or ts k other).variable false ≡ true
    unfolding instruction_of terms_of
    named-at i p {ts} k other h e l =
        let b = thread-below i h in
        let n = thread-size i in
        let m = wait-below i p e in
        let y = x.thread i b in
        let w = placed-wait (placed_at y.placed p) (rw (thread-at i) at e) in
        let u : term_at (terms_of ts) k ≡ get_or ts k other = term_of ts k w.1 ∙ get_d_any ts k no_term other l in
        let f : fetch_at s table.code i p ≡ Wait (terms_of ts) = z.fetched i p b (omega arith) ∙ ap instruction_of w.0 in
        let v : (term_at (terms_of ts) k).variable < 80 = omega (arith, w.2 k other l, ap (λ (t : EdgeTerm). t.variable) u, x.widths) in
        let few : k < at_most 8 (length ts) = omega (arith, at_most-same 8 (length ts) w.1) in
        let g = size-at i h in
        let big = y.most in
        let q : p < at_most 256 (get_or table.sizes i 0) = omega (arith, at_most-same 256 (get_or table.sizes i 0) (omega arith)) in
        ap (λ (t : EdgeTerm). get_or (watched_below s table.code table.sizes (length threads) (replicate 80 false)) t.variable false) (sym u)
        ∙ watched-named (terms_of ts) k v few s table.code i p f table.sizes (length threads) (replicate 80 false) h q refl

    holds : Holding s (trees s r).contents starts table.sizes table.code
        (readers_below s ds starts (length (trees s r).contents.wires) (replicate 80 0))
        (watched_below s table.code table.sizes (length (trees s r).contents.threads) (replicate 80 false))
    unfolding trees map_module
    holds =
        record {
          wire = λ k h. stands x.closed (wire-read k h);
          size = size-at;
          fetched = fetched-at;
          read_by = marked.own;
          read-by-none = marked.none;
          named = named-at;
        }

-- ---- the law

-- The module is the sheet's, with the tree at each place.
pub module-same : (s : List ℕ) (r : Sheet ℕ) (m : Module Expr) → read_sheet (located s) s ≡ ok r → read s ≡ ok m → (trees s r).contents ≡ m
unfolding map_res
module-same s r m h e = ok-injective (sym (read-located s ∙ ap (map_res (λ r. (trees s r).contents)) h) ∙ e)

pub holding : (s code : List ℕ) (r : Sheet ℕ) (m : Module Expr) → read_sheet (located s) s ≡ ok r → read s ≡ ok m → length code ≡ 4096
    → let c = compile_at s (definitions_of r.definitions) (length r.contents.threads) r.body code in
    Holding s m (starts_of r.contents.wires) c.sizes c.code
    (readers_below s (definitions_of r.definitions) (starts_of r.contents.wires) (length m.wires) (replicate 80 0))
    (watched_below s c.code c.sizes (length m.threads) (replicate 80 false))
holding s code r m h e long =
    let c = compile_at s (definitions_of r.definitions) (length r.contents.threads) r.body code in
    subst
    (λ (n : Module Expr). Holding s n (starts_of r.contents.wires) c.sizes c.code
    (readers_below s (definitions_of r.definitions) (starts_of r.contents.wires) (length n.wires) (replicate 80 0))
    (watched_below s c.code c.sizes (length n.threads) (replicate 80 false)))
    (module-same s r m h e)
    (holds s code r (accepted s r h) (compile-law s code r h long))

-- Each instruction that is fetched is the translation's, with its expression read where the code says.
abbrev AllCoded : List ℕ → List ℕ → Module Expr → Type 0
AllCoded s code m =
    (i p : ℕ) → i < length m.threads → p < length (thread_code (get_or m.threads i empty))
    → Coded m.scope s (get_or (thread_code (get_or m.threads i empty)) p (go 0)) (fetch_at s code i p)

coded-trees : (s code : List ℕ) (r : Sheet ℕ) → Accepted s r
    → Compiles s r.contents.threads (compile_at s (definitions_of r.definitions) (length r.contents.threads) r.body code)
    → AllCoded s (compile_at s (definitions_of r.definitions) (length r.contents.threads) r.body code).code (trees s r).contents
unfolding trees map_module
coded-trees s code r x z = coded-at s code r x z

pub coded : (s code : List ℕ) (r : Sheet ℕ) (m : Module Expr) → read_sheet (located s) s ≡ ok r → read s ≡ ok m → length code ≡ 4096
    → AllCoded s (compile_at s (definitions_of r.definitions) (length r.contents.threads) r.body code).code m
coded s code r m h e long =
    subst (AllCoded s (compile_at s (definitions_of r.definitions) (length r.contents.threads) r.body code).code) (module-same s r m h e)
    (coded-trees s code r (accepted s r h) (compile-law s code r h long))

-- ---- the counts that the code is handed are the module's

module _ (s : List ℕ) (r : Sheet ℕ) (m : Module Expr) (h : read_sheet (located s) s ≡ ok r) (e : read s ≡ ok m) where
  pub wire-count : at_most 32 (length r.contents.wires) ≡ length m.wires
  unfolding trees map_module
  wire-count =
      at_most-same 32 (length r.contents.wires) (accepted s r h).wires
      ∙ sym (length-map r.contents.wires (expr_at s r.contents.scope))
      ∙ ap (λ (n : Module Expr). length n.wires) (module-same s r m h e)

  pub thread-count : at_most 8 (length r.contents.threads) ≡ length m.threads
  unfolding trees map_module
  thread-count =
      at_most-same 8 (length r.contents.threads) (accepted s r h).threads
      ∙ sym (length-map r.contents.threads (map_stmt (expr_at s r.contents.scope)))
      ∙ ap (λ (n : Module Expr). length n.threads) (module-same s r m h e)

  -- What `fill_readers` and `fill_watched` leave of blank tables.
  pub holding-filled : (code : List ℕ) → length code ≡ 4096
      → let c = compile_at s (definitions_of r.definitions) (length r.contents.threads) r.body code in
      Holding s m (starts_of r.contents.wires) c.sizes c.code
      (readers_below s (definitions_of r.definitions) (starts_of r.contents.wires) (at_most 32 (length r.contents.wires)) (replicate 80 0))
      (watched_below s c.code c.sizes (at_most 8 (length r.contents.threads)) (replicate 80 false))
  holding-filled code long = rw (wire-count, thread-count) (holding s code r m h e long)
