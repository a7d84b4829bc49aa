-- The lines that the code prints from its table are the listing's, for every sheet that is read; of every other the buffer stays.
use mathlib.Core.Path.{◌≡◌, refl, sym, ap, ◌∙◌}
use Prim.Native.Nat.{ℕ, zero, suc, ◌+◌, ◌-◌, ◌≤◌, ◌<◌}
use native.Mathlib.Omega.{arith}
use mathlib.Core.List.{List, [], ◌∷◌, ◌++◌}
use lib.ListN.{length, get_or, replicate, length-replicate}
use lib.Seq.{sets}
use lib.Dec.{leb}
use Rattle.sheet.specs.declared.SheetRead.{SheetRead}
use Rattle.sheet.specs.Reading.{Res, ok, no}
use Rattle.sheet.specs.Expression.{Expr, Scope, located}
use Rattle.sheet.specs.Statement.{Stmt, empty, size, Body, read_stmt}
use Rattle.sheet.specs.Module.{Module, read_threads, Sheet, read_sheet, read}
use Rattle.sheet.specs.Module as reading
use Rattle.sheet.specs.Answers.{definitions_of, layout_of, sheet_answer}
use Rattle.sheet.proofs.Reading.{bind_ok, check-ok, ok-injective}
use Rattle.sheet.proofs.Statements.{ReadsStmt, derive-stmt}
use Rattle.sheet.proofs.Trees.{map_res, trees, read-located}
use Rattle.sheet.proofs.Numbers.{numbered-no, located-numbered, sheet-numbered}
use Rattle.pseudocode.specs.Translation.{Instr, go, thread_code}
use Rattle.pseudocode.specs.Instruction.{instruction_of}
use Rattle.pseudocode.specs.Compiling.{Compiled, compile_at}
use Rattle.pseudocode.specs.Fetching.{fetch_at}
use Rattle.pseudocode.proofs.Sheets.{scope_with, sections}
use Rattle.pseudocode.proofs.Translation.{thread_code-size}
use Rattle.pseudocode.proofs.Compiling.{Compiles, compile-law}
use Rattle.writing.specs.Buffer.{Text, filled, puts}
use Rattle.text.specs.Listing.{show_line, show_code, show_threads, show_head, show_module, listing, refusal, printed, output}
use Rattle.text.specs.Printing.{text_at, instr_of, printed_at}
use Rattle.writing.proofs.Buffer.{puts-append, both, puts-sets}
use Rattle.text.proofs.Length.{length-listing}
use Rattle.text.proofs.Located.{PlacedAll, none, more, instr-of, thread-placed, output-located}
use Rattle.listings.specs.declared.Listed.{Listed}
use Rattle.listings.specs.Lines.{code_lines, thread_lines, table_listing}
use Rattle.listings.specs.Listing.{listed, laid_in}

-- ---- the turns of the code's loops: what is still to be put gives the whole

pub sub-zero : (n : ℕ) → n - 0 ≡ n
sub-zero n = omega arith

one_more : (n i : ℕ) → i < n → n - i ≡ suc (n - (i + 1))
one_more n i h = omega arith

module _ (s ds code : List ℕ) (thread size place : ℕ) (t u : Text) where
  pub code-turn : place < size → u ≡ puts t (show_line (text_at s ds) thread place (instr_of (fetch_at s code thread place)))
      → puts u (code_lines s ds code thread (size - (place + 1)) (place + 1)) ≡ puts t (code_lines s ds code thread (size - place) place)
  unfolding code_lines
  code-turn h e = rw (one_more size place h, puts-append, e) refl

pub code-end : (s ds code : List ℕ) (thread size place : ℕ) → size ≤ place → code_lines s ds code thread (size - place) place ≡ []
unfolding code_lines
code-end s ds code thread size place h = let e : size - place ≡ 0 = omega arith in rw e refl

module _ (s ds code sizes : List ℕ) (threads thread : ℕ) (t u : Text) where
  pub thread-turn : thread < threads → u ≡ puts t (code_lines s ds code thread (get_or sizes thread 0) 0)
      → puts u (thread_lines s ds code sizes (threads - (thread + 1)) (thread + 1)) ≡ puts t (thread_lines s ds code sizes (threads - thread) thread)
  unfolding thread_lines
  thread-turn h e = rw (one_more threads thread h, puts-append, e) refl

pub thread-end : (s ds code sizes : List ℕ) (threads thread : ℕ) → threads ≤ thread → thread_lines s ds code sizes (threads - thread) thread ≡ []
unfolding thread_lines
thread-end s ds code sizes threads thread h = let e : threads - thread ≡ 0 = omega arith in rw e refl

-- ---- the way through the code of a whole listing

pub listing-path : (s ds : List ℕ) (threads body : ℕ) (t u v : Text) {code sizes : List ℕ}
    → sizes ≡ (compile_at s ds threads body (replicate 4096 0)).sizes → code ≡ (compile_at s ds threads body (replicate 4096 0)).code
    → u ≡ puts t (show_head threads) → v ≡ puts u (thread_lines s ds code sizes threads 0) → v ≡ puts t (table_listing s ds threads body)
unfolding table_listing
listing-path s ds threads body t u v es ec eu ev = both t u v _ _ eu (ev ∙ rw (es, ec) refl)

-- ---- one thread

add-zero' : (n : ℕ) → n ≡ n + 0
add-zero' n = omega arith

zero-add' : (n : ℕ) → 0 + n ≡ n
zero-add' n = omega arith

shift : (n k : ℕ) → n + 1 + k ≡ n + suc k
shift n k = omega arith

module _ {c : Scope} {s : List ℕ} (ds code : List ℕ) (thread : ℕ) where
  lines_code : {is : List (Instr ℕ)} {js : List (Instr Expr)} → PlacedAll c s is js → (n place : ℕ) → n ≡ length is
      → ((k : ℕ) → k < length is → fetch_at s code thread (place + k) ≡ instruction_of (get_or is k (go 0)))
      → code_lines s ds code thread n place ≡ show_code (text_at s ds) thread place is
  unfolding code_lines show_code
  lines_code none n place e fetched = rw e refl
  lines_code (more {i = i} {is = is} p ps) n place e fetched =
      let first : fetch_at s code thread place ≡ instruction_of i = ap (fetch_at s code thread) (add-zero' place) ∙ fetched 0 (omega arith) in
      let rest = lines_code ps (length is) (place + 1) refl (λ k h. ap (fetch_at s code thread) (shift place k) ∙ fetched (suc k) (omega arith)) in
      rw e (rw (first, instr-of p, rest) refl)

-- ---- all threads

abbrev number-of : SheetRead → ℕ
number-of r = r.number

abbrev items : reading.Listed (Stmt ℕ) → List (Stmt ℕ)
items l = l.items

module _ (c : Scope) (s ds code sizes : List ℕ) where
  -- The table holds the threads from a number on.
  pub record Tabled (thread : ℕ) (threads : List (Stmt ℕ)) : Type 0 where
    pub sized : (k : ℕ) → k < length threads → get_or sizes (thread + k) 0 ≡ size (get_or threads k empty) + 1
    pub fetched : (k p : ℕ) → k < length threads → p < size (get_or threads k empty) + 1
        → fetch_at s code (thread + k) p ≡ instruction_of (get_or (thread_code (get_or threads k empty)) p (go 0))

  tabled-rest : {thread : ℕ} {a : Stmt ℕ} {bs : List (Stmt ℕ)} → Tabled thread (a ∷ bs) → Tabled (thread + 1) bs
  tabled-rest {thread} t =
      record {
        sized = λ k h. ap (λ (i : ℕ). get_or sizes i 0) (shift thread k) ∙ t.sized (suc k) (omega arith);
        fetched = λ k p h l. ap (λ (i : ℕ). fetch_at s code i p) (shift thread k) ∙ t.fetched (suc k) p (omega arith) l;
      }

  lines-thread : {d p : ℕ} {b : Body ℕ} {bs : List (Stmt ℕ)} → ReadsStmt (located s) c s d p b → (thread : ℕ) → Tabled thread (b.stmt ∷ bs)
      → code_lines s ds code thread (get_or sizes thread 0) 0 ≡ show_code (text_at s ds) thread 0 (thread_code b.stmt)
  lines-thread {b = b} x thread t =
      let k : get_or sizes thread 0 ≡ size b.stmt + 1 = ap (λ (i : ℕ). get_or sizes i 0) (add-zero' thread) ∙ t.sized 0 (omega arith) in
      let n = thread_code-size b.stmt in
      lines_code ds code thread (thread-placed c s x) (get_or sizes thread 0) 0 (k ∙ sym n)
      (λ i h. ap (fetch_at s code thread) (zero-add' i) ∙ ap (λ (j : ℕ). fetch_at s code j i) (add-zero' thread) ∙ t.fetched 0 i (omega arith) (omega arith))

  lines-threads : (n p : ℕ) {l : reading.Listed (Stmt ℕ)} → read_threads (located s) c s n p ≡ ok l → (ts : List (Stmt ℕ)) → l.items ≡ ts
      → (thread : ℕ) → Tabled thread ts → thread_lines s ds code sizes (length ts) thread ≡ show_threads (text_at s ds) thread ts
  unfolding read_threads thread_lines show_threads
  lines-threads zero p {l} h ts q thread t =
      let x : [] ≡ ts = ap items (ok-injective h) ∙ q in
      rw (← x) refl
  lines-threads (suc n) p {l} h ts q thread t =
      let b = bind_ok (read_stmt (located s) c s 64 p) _ h in
      let k = check-ok (leb (size b.0.stmt + 1) 256) 11 p _ b.2 in
      let bs = bind_ok (read_threads (located s) c s n b.0.next) _ k.1 in
      let x : (b.0.stmt ∷ bs.0.items) ≡ ts = ap items (ok-injective bs.2) ∙ q in
      let u : Tabled thread (b.0.stmt ∷ bs.0.items) = rw (← x) at t in
      let y = lines-thread (derive-stmt (located s) c s 64 p b.1) thread u in
      let z = lines-threads n b.0.next bs.1 bs.0.items refl (thread + 1) (tabled-rest u) in
      rw (← x) (rw (y, z) refl)

-- ---- the sheet

tabled : (c : Scope) (s ds : List ℕ) {threads : List (Stmt ℕ)} {k : Compiled} → Compiles s threads k → Tabled c s ds k.code k.sizes 0 threads
tabled c s ds {threads} {k} h =
    record {
      sized = λ i l. ap (λ (j : ℕ). get_or k.sizes j 0) (zero-add' i) ∙ h.size-of i l;
      fetched = λ i p l b. ap (λ (j : ℕ). fetch_at s k.code j p) (zero-add' i) ∙ h.fetched i p l b;
    }

pub table-listing : (s : List ℕ) (r : Sheet ℕ) → read_sheet (located s) s ≡ ok r
    → table_listing s (definitions_of r.definitions) (length r.contents.threads) r.body
    ≡ show_module (text_at s (definitions_of r.definitions)) r.contents
unfolding table_listing show_module
table-listing s r e =
    let x = sections (located s) s e in
    let c = scope_with x.head x.functions in
    let ds = definitions_of r.definitions in
    let t = tabled c s ds (compile-law s (replicate 4096 0) r e (length-replicate {A = ℕ} 4096 0)) in
    ap (λ (l : List ℕ). show_head (length r.contents.threads) ++ l)
    (lines-threads c s ds _ _ x.head.threads x.wires.next x.threads-read r.contents.threads (sym (ap threads-of x.made)) 0 t)
  where
    threads-of : Sheet ℕ → List (Stmt ℕ)
    threads-of q = q.contents.threads

-- ---- the listing that is put at the front of the buffer, by the answer of reading

-- A text of so many bytes, put at the front.
module _ (l x y : List ℕ) {b : List ℕ} {r : ℕ} (h : filled b r ≡ puts (filled l 0) y) (e : x ≡ y) (few : length x ≤ 65536) where
  same : filled b r ≡ filled (sets l 0 x) (0 + length x)
  same = h ∙ ap (puts (filled l 0)) (sym e) ∙ puts-sets (filled l 0) x (omega arith)

  pub front_length : r ≡ length x
  front_length =
      let n : r ≡ 0 + length x = ap (λ (t : Text). t.at) same in
      omega arith

  pub front_bytes : b ≡ sets l 0 x
  front_bytes = ap (λ (t : Text). t.bytes) same

module _ (s : List ℕ) (r : SheetRead) (e : r ≡ sheet_answer (read_sheet (located s) s)) where
  abbrev Listing : Listed → List ℕ → List ℕ → Type 0
  Listing a l b = (a ≡ listed (read s)) × ((b ≡ laid_in l (read s)) × (a.length ≤ 65536))

  number-of-read : {x : Res (Sheet ℕ)} → read_sheet (located s) s ≡ x → r.number ≡ (sheet_answer x).number
  number-of-read g = ap number-of e ∙ ap (λ (y : Res (Sheet ℕ)). (sheet_answer y).number) g

  pub list-refused : (r.number ≡ 0 → ⊥) → (l : List ℕ) → Listing (record { number = r.number; length = 0 }) l l
  unfolding sheet_answer map_res listed laid_in
  list-refused h l = rw (read-located s) (by (read_sheet (located s) s) refl)
    where
      by : (x : Res (Sheet ℕ)) → read_sheet (located s) s ≡ x →
          (◌≡◌ {A = Listed} (record { number = r.number; length = 0 }) (listed (map_res (λ q. (trees s q).contents) x)))
          × ((l ≡ laid_in l (map_res (λ q. (trees s q).contents) x)) × (0 ≤ 65536))
      by (ok q) g = absurd (h (number-of-read g))
      by (no n p) g = (ap (λ (k : ℕ). record { number = k; length = 0 }) (number-of-read g), (refl, omega arith))

  -- The table's lines are the listing.
  listing-table : (q : Sheet ℕ) → read_sheet (located s) s ≡ ok q →
      listing (trees s q).contents ≡ table_listing s r.layout.definitions r.layout.threads r.layout.body
  unfolding output printed printed_at map_res sheet_answer layout_of
  listing-table q g =
      let a : r ≡ sheet_answer (ok q) = e ∙ ap sheet_answer g in
      sym (ap printed (read-located s ∙ ap (map_res (λ t. (trees s t).contents)) g))
      ∙ output-located s
      ∙ ap (printed_at s) g
      ∙ sym (table-listing s q g)
      ∙ sym (ap (λ (x : SheetRead). table_listing s x.layout.definitions x.layout.threads x.layout.body) a)

  pub list_read : r.number ≡ 0 → (l : List ℕ) {b : List ℕ} {n : ℕ} →
      filled b n ≡ puts (filled l 0) (table_listing s r.layout.definitions r.layout.threads r.layout.body) →
      Listing (record { number = 0; length = n }) l b
  unfolding sheet_answer map_res listed laid_in
  list_read h l {b} {n} w = by (read_sheet (located s) s) refl
    where
      by : (x : Res (Sheet ℕ)) → read_sheet (located s) s ≡ x → Listing (record { number = 0; length = n }) l b
      by (ok q) g =
          let m = (trees s q).contents in
          let z : read s ≡ ok m = read-located s ∙ ap (map_res (λ t. (trees s t).contents)) g in
          let few = length-listing s z in
          let k = front_length l (listing m) _ w (listing-table q g) few in
          rw (z, k) (refl, (front_bytes l (listing m) _ w (listing-table q g) few, few))
      by (no k p) g =
          let o : k ≡ 0 = sym (number-of-read g) ∙ h in
          let z = numbered-no (sheet-numbered (located s) (located-numbered s) s) g in
          absurd (omega arith)

-- ---- what the program prints: the listing that the buffer holds, or the line of the refusal

module _ (s : List ℕ) (l : Listed) (t b : List ℕ) (e : l ≡ listed (read s)) (g : b ≡ laid_in t (read s)) where
  pub output-refused : (l.number ≡ 0 → ⊥) → (refusal l.number ≡ output s) × (b ≡ t)
  unfolding output printed listed laid_in
  output-refused h = by (read s) e g
    where
      by : (x : Res (Module Expr)) → l ≡ listed x → b ≡ laid_in t x → (refusal l.number ≡ printed x) × (b ≡ t)
      by (ok m) f w = absurd (h (ap (λ (a : Listed). a.number) f))
      by (no n p) f w = (ap (λ (a : Listed). refusal a.number) f, w)

  pub output-listed : l.number ≡ 0 → (l.length ≡ length (output s)) × (b ≡ sets t 0 (output s))
  unfolding output printed listed laid_in map_res
  output-listed h = by (read_sheet (located s) s) refl
    where
      by : (x : Res (Sheet ℕ)) → read_sheet (located s) s ≡ x → (l.length ≡ length (output s)) × (b ≡ sets t 0 (output s))
      by (ok q) w =
          let z : read s ≡ ok (trees s q).contents = read-located s ∙ ap (map_res (λ a. (trees s a).contents)) w in
          rw z (ap (λ (a : Listed). a.length) (rw z at e), rw z at g)
      by (no n p) w =
          let z : read s ≡ no n p = read-located s ∙ ap (map_res (λ a. (trees s a).contents)) w in
          let k : l.number ≡ n = ap (λ (a : Listed). a.number) (rw z at e) in
          let o = numbered-no (sheet-numbered (located s) (located-numbered s) s) w in
          absurd (omega arith)
