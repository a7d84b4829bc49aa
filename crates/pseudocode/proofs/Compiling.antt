-- The law of the code table, specs/Translated: for a sheet that is accepted, what is fetched at each place of each thread is the
-- instruction at that place of the thread's translation, and the sizes are those of the threads (`compile-law`).
use mathlib.Core.Path.{◌≡◌, refl, sym, ap, ◌∙◌, subst}
use Prim.Native.Nat.{ℕ, zero, suc, ◌+◌, ◌-◌, ◌≤◌, ◌<◌, min}
use native.Mathlib.Omega.{arith}
use mathlib.Core.Bool.{Bool, true, false}
use mathlib.Core.List.{List, [], ◌∷◌}
use lib.ListN.{length, get_or, set, length-set, replicate}
use lib.Seq.{get_or-set_same, get_or-set_other}
use lib.Dec.{ltb, leb}
use borrow.Author.Tests.{ltb-true, leb-true, ltb-false}
use Rattle.values.specs.Values.{pick}
use Rattle.sheet.specs.Reading.{Res, ok}
use Rattle.sheet.specs.Expression.{Scope, Parsed, located}
use Rattle.sheet.specs.Statement.{Stmt, empty, size, Body, read_stmt}
use Rattle.sheet.specs.Module.{Listed, read_threads, Sheet, read_sheet}
use Rattle.sheet.specs.Answers.{definitions_of}
use Rattle.sheet.proofs.Reading.{bind_ok, check-ok, ok-injective}
use Rattle.sheet.proofs.Sections.{headed}
use Rattle.sheet.proofs.Statements.{derive-stmt}
use Rattle.pseudocode.specs.declared.Filled.{Filled}
use Rattle.pseudocode.specs.Translation.{go, thread_code}
use Rattle.pseudocode.specs.Instruction.{instruction_of}
use Rattle.pseudocode.specs.Filling.{cell, filling, filled, fill_forever, fill_at}
use Rattle.pseudocode.specs.Compiling.{Compiled, compiled, compile_thread, compile_from, thread_count, compile_at}
use Rattle.pseudocode.specs.Fetching.{fetch_at}
use Rattle.pseudocode.specs.Translated.{CompileLaw}
pub use Rattle.pseudocode.specs.Translated.{Compiles}
use Rattle.pseudocode.proofs.Translation.{thread_code-size}
use Rattle.pseudocode.proofs.Sheets.{scope_with, sections}
use Rattle.pseudocode.proofs.Skipping.{Counted, counted_none, functions-counted}
use Rattle.pseudocode.proofs.Filling.{Frame, frame-none, frame_then}
use Rattle.pseudocode.proofs.Holding.{Holds, holds-before, holds_at, forever-fills, fills}

-- ---- the ways through the code's loop

pub thread_count-most : (n : ℕ) → thread_count n ≤ 8
unfolding thread_count
thread_count-most n = by (ltb n 8) refl
  where
    by : (x : Bool) → ltb n 8 ≡ x → pick x n 8 ≤ 8
    by true e = let l = ltb-true n 8 e in omega arith
    by false e = omega arith

pub thread_count-min : (n : ℕ) → min n 8 ≡ thread_count n
unfolding thread_count
thread_count-min n = by (ltb n 8) refl
  where
    by : (x : Bool) → ltb n 8 ≡ x → min n 8 ≡ pick x n 8
    by true e = let l = ltb-true n 8 e in omega arith
    by false e = let l = ltb-false n 8 e in omega arith

pub thread_count-same : (n : ℕ) → n ≤ 8 → thread_count n ≡ n
unfolding thread_count
thread_count-same n h = by (ltb n 8) refl
  where
    by : (x : Bool) → ltb n 8 ≡ x → pick x n 8 ≡ n
    by true e = refl
    by false e = let l = ltb-false n 8 e in omega arith

module _ (s ds : List ℕ) (n t : ℕ) (c : Compiled) where
  pub compile-turn : t < n → compile_from s ds (n - t) t c ≡ compile_from s ds (n - (t + 1)) (t + 1) (compile_thread s ds t c)
  unfolding compile_from
  compile-turn h = let e : n - t ≡ suc (n - (t + 1)) = omega arith in rw e refl

  pub compile-end : n ≤ t → compile_from s ds (n - t) t c ≡ c
  unfolding compile_from
  compile-end h = let e : n - t ≡ 0 = omega arith in rw e refl

pub thread-path : (s ds : List ℕ) (t next : ℕ) (sizes code : List ℕ) {f : Filled} {code' : List ℕ}
    → filled f code' ≡ fill_forever s ds t (fill_at s ds t 64) (filling next 0 code)
    → compiled f.next (set sizes t f.place) code' ≡ compile_thread s ds t (compiled next sizes code)
unfolding compile_thread
thread-path s ds t next sizes code e = λ i. compiled (e i).next (set sizes t (e i).place) (e i).code

-- ---- one thread

-- The table holds a thread's code, and its size is known.
pub record Runs (s : List ℕ) (c : Compiled) (t : ℕ) (a : Stmt ℕ) : Type 0 where
  pub size-of : get_or c.sizes t 0 ≡ size a + 1
  pub code : Holds s c.code t 0 (thread_code a)

-- What filling threads from t to before u leaves as it was.
pub record Keeps (t u : ℕ) (c c' : Compiled) : Type 0 where
  pub long : length c'.sizes ≡ length c.sizes
  pub sizes-before : (j : ℕ) → j < t → get_or c'.sizes j 0 ≡ get_or c.sizes j 0
  pub sizes-behind : (j : ℕ) → u ≤ j → get_or c'.sizes j 0 ≡ get_or c.sizes j 0
  pub code : Frame (cell t 0) (cell u 0) c.code c'.code

runs-kept : {s : List ℕ} {c c' : Compiled} {t u v : ℕ} {a : Stmt ℕ} → t < u → size a + 1 ≤ 256 → Keeps u v c c'
    → Runs s c t a → Runs s c' t a
runs-kept {t = t} {a = a} l h k r =
    let e = thread_code-size a in
    record { size-of = k.sizes-before t l ∙ r.size-of; code = holds-before k.code (omega arith) r.code }

module _ (s ds : List ℕ) (short : length s ≤ 8192) (sc : Scope) (counted : Counted s ds sc.functions) (few : sc.inputs + sc.registers ≤ 256) where
  -- One thread is compiled from the place of its statement.
  pub record Turn (t : ℕ) (c : Compiled) (b : Body ℕ) : Type 0 where
    pub next : (compile_thread s ds t c).next ≡ b.next
    pub runs : Runs s (compile_thread s ds t c) t b.stmt
    pub keeps : Keeps t (t + 1) c (compile_thread s ds t c)

  turn : (t : ℕ) (c : Compiled) (b : Body ℕ) → t < 8 → read_stmt (located s) sc s 64 c.next ≡ ok b → size b.stmt + 1 ≤ 256
      → length c.code ≡ 4096 → length c.sizes ≡ 8 → Turn t c b
  unfolding compile_thread fill_forever thread_code size
  turn t c b ht r h long eight =
      let f = filling c.next 0 c.code in
      let x = fills s ds short sc counted few t ht (derive-stmt (located s) sc s 64 c.next r) 0 f refl refl (omega arith) long in
      let y = forever-fills s t ht (omega arith) long x in
      let z : (fill_forever s ds t (fill_at s ds t 64) f).place ≡ size b.stmt + 1 = y.place ∙ omega arith in
      record {
        next = y.next;
        runs = record { size-of = get_or-set_same c.sizes t _ 0 (omega arith) ∙ z; code = y.part.holds };
        keeps =
            record {
              long = length-set c.sizes t _;
              sizes-before = λ j l. get_or-set_other c.sizes t j _ 0 (λ e. omega arith);
              sizes-behind = λ j l. get_or-set_other c.sizes t j _ 0 (λ e. omega arith);
              code =
                  frame_then (cell t 0) (cell (t + 1) 0) (frame-none (cell t 0) (cell t 0) c.code) y.part.frame
                  (omega arith) (omega arith) (omega arith) (omega arith);
            };
      }

  -- ---- all threads from t on

  pub record Compiled-from (n t : ℕ) (c : Compiled) (ts : List (Stmt ℕ)) : Type 0 where
    pub count : length ts ≡ n
    pub runs : (j : ℕ) → j < n → Runs s (compile_from s ds n t c) (t + j) (get_or ts j empty)
    pub keeps : Keeps t (t + n) c (compile_from s ds n t c)

  module _ (n t : ℕ) (c : Compiled) (b : Body ℕ) (ts : List (Stmt ℕ)) (l : size b.stmt + 1 ≤ 256) (x : Turn t c b)
      (y : Compiled-from n (t + 1) (compile_thread s ds t c) ts) where
    runs-more : (j : ℕ) → j < suc n → Runs s (compile_from s ds (suc n) t c) (t + j) (get_or (b.stmt ∷ ts) j empty)
    unfolding compile_from
    runs-more zero h = let e : t + 0 ≡ t = omega arith in rw e (runs-kept (omega arith) l y.keeps x.runs)
    runs-more (suc j) h = let e : t + suc j ≡ t + 1 + j = omega arith in rw e (y.runs j (omega arith))

    compile-more : Compiled-from (suc n) t c (b.stmt ∷ ts)
    unfolding compile_from
    compile-more =
        let p = x.keeps in
        let q = y.keeps in
        record {
          count = ap suc y.count;
          runs = runs-more;
          keeps =
              record {
                long = q.long ∙ p.long;
                sizes-before = λ j h. q.sizes-before j (omega arith) ∙ p.sizes-before j h;
                sizes-behind = λ j h. q.sizes-behind j (omega arith) ∙ p.sizes-behind j (omega arith);
                code =
                    frame_then (cell t 0) (cell (t + suc n) 0) p.code q.code (omega arith) (omega arith) (omega arith) (omega arith);
              };
        }

  compile-from : (n t : ℕ) (c : Compiled) {ts : Listed (Stmt ℕ)} → t + n ≤ 8 → read_threads (located s) sc s n c.next ≡ ok ts
      → length c.code ≡ 4096 → length c.sizes ≡ 8 → Compiled-from n t c ts.items
  unfolding read_threads compile_from
  compile-from zero t c h r long eight =
      rw (← ok-injective r)
      (record {
        count = refl;
        runs = λ j l. absurd (omega arith);
        keeps =
            record {
              long = refl;
              sizes-before = λ j l. refl;
              sizes-behind = λ j l. refl;
              code = frame-none (cell t 0) (cell (t + 0) 0) c.code;
            };
      })
  compile-from (suc n) t c h r long eight =
      let b = bind_ok (read_stmt (located s) sc s 64 c.next) _ r in
      let k = check-ok (leb (size b.0.stmt + 1) 256) 11 c.next _ b.2 in
      let bs = bind_ok (read_threads (located s) sc s n b.0.next) _ k.1 in
      let l = leb-true (size b.0.stmt + 1) 256 k.0 in
      let x = turn t c b.0 (omega arith) b.1 l long eight in
      let e = ap (read_threads (located s) sc s n) x.next ∙ bs.1 in
      let y = compile-from n (t + 1) (compile_thread s ds t c) (omega arith) e (x.keeps.code.long ∙ long) (x.keeps.long ∙ eight) in
      rw (← ok-injective bs.2) (compile-more n t c b.0 bs.0.items l x y)

-- ---- the whole sheet

no-sizes : (n t : ℕ) → ◌≡◌ {A = ℕ} (get_or (replicate n 0) t 0) 0
no-sizes zero t = refl
no-sizes (suc n) zero = refl
no-sizes (suc n) (suc t) = no-sizes n t

-- From the threads that were compiled to the statement.
module _ (s ds : List ℕ) (short : length s ≤ 8192) (sc : Scope) (counted : Counted s ds sc.functions) (few : sc.inputs + sc.registers ≤ 256)
    (n body : ℕ) (code : List ℕ) (ts : List (Stmt ℕ)) (x : Compiled-from s ds short sc counted few n 0 (compiled body (replicate 8 0) code) ts) where
  thread-runs : (t : ℕ) → t < length ts → Runs s (compile_from s ds n 0 (compiled body (replicate 8 0) code)) t (get_or ts t empty)
  thread-runs t l =
      let m = x.count in
      let e : 0 + t ≡ t = omega arith in
      rw e at (x.runs t (omega arith))

  thread-fetched : (t p : ℕ) → t < length ts → p < size (get_or ts t empty) + 1
      → fetch_at s (compile_from s ds n 0 (compiled body (replicate 8 0) code)).code t p
      ≡ instruction_of (get_or (thread_code (get_or ts t empty)) p (go 0))
  thread-fetched t p l h =
      let e : 0 + p ≡ p = omega arith in
      let k = thread_code-size (get_or ts t empty) in
      rw e at (holds_at (thread-runs t l).code p (omega arith))

  compiles : n ≤ 8 → Compiles s ts (compile_at s ds (length ts) body code)
  unfolding compile_at
  compiles h =
      let k = x.count in
      let m : thread_count (length ts) ≡ n = thread_count-same (length ts) (omega arith) ∙ k in
      rw m
      (record {
        size-of = λ t l. (thread-runs t l).size-of;
        no_size = λ t l. x.keeps.sizes-behind t (omega arith) ∙ no-sizes 8 t;
        fetched = thread-fetched;
      })

-- The functions of a sheet have so many parameters as their definitions say.
pub sheet-counted : {E : Type 0} (expr : Scope → ℕ → Res (Parsed E)) (s : List ℕ) {r : Sheet E} → read_sheet expr s ≡ ok r
    → Counted s (definitions_of r.definitions) r.contents.scope.functions
unfolding definitions_of
sheet-counted expr s e =
    let x = sections expr s e in
    let n = x.head.scope.declared in
    let most = (headed s x.head-read).functions-most in
    rw x.made
    (functions-counted n n [] s x.head.next (replicate 8 0) 0 refl (omega arith) refl (counted_none s (replicate 8 0)) x.functions-read)

pub compile-law : CompileLaw
compile-law s code r e long =
    let x = sections (located s) s e in
    let c = scope_with x.head x.functions in
    let counts = headed s x.head-read in
    let few : c.inputs + c.registers ≤ 256 = omega (arith, counts.inputs-most, counts.registers-most) in
    let ds = definitions_of r.definitions in
    let counted : Counted s ds c.functions = subst (λ (q : Sheet ℕ). Counted s ds q.contents.scope.functions) x.made (sheet-counted (located s) s e) in
    let start = compiled x.wires.next (replicate 8 0) code in
    let y = compile-from s ds x.short c counted few x.head.threads 0 start (omega (arith, counts.threads-most)) x.threads-read long refl in
    let z = compiles s ds x.short c counted few x.head.threads x.wires.next code x.threads.items y counts.threads-most in
    subst (λ (q : Sheet ℕ). Compiles s q.contents.threads (compile_at s ds (length q.contents.threads) q.body code)) (sym x.made) z
