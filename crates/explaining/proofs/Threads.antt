-- The threads of a sheet that was read: where they stand and how they wait; and what the call gives, by the answer of reading.
use mathlib.Core.Path.{◌≡◌, refl, sym, ap, ◌∙◌}
use Prim.Native.Nat.{ℕ, zero, suc, ◌+◌, ◌*◌, ◌≤◌, ◌<◌}
use native.Mathlib.Omega.{arith}
use mathlib.Core.Bool.{true, false, ◌&&◌}
use mathlib.Core.List.{List, ◌∷◌}
use lib.ListN.{length, get_or, length-map, get_or-eq_default}
use lib.Dec.{leb}
use borrow.Author.Tests.{lt-ltb}
use Rattle.sheet.specs.declared.SheetRead.{SheetRead}
use Rattle.sheet.specs.Reading.{Res, ok, no}
use Rattle.sheet.specs.Expression.{Expr, Scope, tree, located}
use Rattle.sheet.specs.Statement.{Form, an_empty, an_assign, a_later, a_sequence, an_if, an_if_else, a_while, a_forever, a_wait}
use Rattle.sheet.specs.Statement.{Stmt, empty, forever, size, Body, read_stmt}
use Rattle.sheet.specs.Module.{Module, map_module, Listed, read_threads, Sheet, read_sheet}
use Rattle.sheet.specs.Answers.{definitions_of, layout_of, sheet_answer}
use Rattle.sheet.proofs.Reading.{bind_ok, check-ok, ok-injective}
use Rattle.sheet.proofs.Statements.{ReadsStmt, an-empty, an-assign, a-later, a-sequence, an-if, an-if-else, a-while, a-forever, a-wait}
use Rattle.sheet.proofs.Statements.{form_map, map-form, derive-stmt}
use Rattle.sheet.proofs.Trees.{map_res, trees, sheet-located, read-located}
use Rattle.sheet.proofs.Numbers.{numbered-no, located-numbered, sheet-numbered}
use Rattle.pseudocode.proofs.Skipping.{Counted}
use Rattle.pseudocode.proofs.Sheets.{scope_with, Sections, sections}
use Rattle.pseudocode.proofs.Compiling.{sheet-counted}
use Rattle.nextstate.specs.Rules.{body_of, starts_waiting, surely_waits, loops_wait}
use Rattle.rules.specs.declared.Waiting.{Waiting}
use Rattle.rules.specs.Walking.{running, waits, in_sequence, in_if, in_if_else, in_while, in_forever, walk_form, walk_at}
use Rattle.rules.proofs.Walking.{waiting_of}
use Rattle.writing.specs.Buffer.{Text, filled, puts}
use Rattle.naming.specs.Naming.{name_of}
use Rattle.verilog.specs.Verilog.{answer}
use Rattle.explaining.specs.Explaining.{thread_text, explained_in, explained}
use Rattle.explaining.specs.Walking.{thread_at, body_at}
use Rattle.explaining.proofs.Reading.{tree-ends, thread-reads}

-- ---- the threads of a sheet

module _ (c : Scope) (s : List ℕ) where
  -- A statement stands at a place of the sheet.
  pub record Stood (p : ℕ) (a : Stmt Expr) : Type 0 where
    pub body : Body Expr
    pub reads : ReadsStmt (tree s) c s 64 p body
    pub same : body.stmt ≡ a

module _ (c : Scope) (s ds : List ℕ) (short : length s ≤ 8192) (known : Counted s ds c.functions) where
  walk-map : (d p : ℕ) (k : Form) → p < length s → get_or s p 0 ≡ form_map k → walk_at (suc d) s ds p ≡ walk_form (walk_at d s ds) s ds p (ok k)
  unfolding walk_at
  walk-map d p k h e = simp (lt-ltb p 8192 (omega arith), map-form (get_or s p 0) p k e)

  -- How a statement that was read waits, as its tree says.
  walks : {d p : ℕ} {b : Body Expr} → ReadsStmt (tree s) c s d p b → walk_at d s ds p ≡ waiting_of b.next b.stmt
  unfolding walk_form form_map waiting_of starts_waiting surely_waits loops_wait running waits in_sequence in_if in_if_else in_while in_forever
  walks {p = p} (an-empty {d = d} l m) = walk-map d p an_empty l m
  walks {p = p} (an-assign {d = d} l m t r e w) = walk-map d p an_assign (omega arith) m ∙ ap running (tree-ends c s ds short known (p + 2) e)
  walks {p = p} (a-later {d = d} l m t r e w) = walk-map d p a_later (omega arith) m ∙ ap running (tree-ends c s ds short known (p + 2) e)
  walks {p = p} (a-sequence {d = d} {a = a} l m x y) =
      walk-map d p a_sequence l m
      ∙ ap (λ (w : Waiting). in_sequence w (walk_at d s ds w.next)) (walks x)
      ∙ ap (in_sequence (waiting_of a.next a.stmt)) (walks y)
  walks {p = p} (an-if {d = d} l m e x) =
      walk-map d p an_if l m ∙ ap in_if (ap (walk_at d s ds) (tree-ends c s ds short known (p + 1) e) ∙ walks x)
  walks {p = p} (an-if-else {d = d} {a = a} l m e x y) =
      walk-map d p an_if_else l m
      ∙ ap (λ (w : Waiting). in_if_else w (walk_at d s ds w.next)) (ap (walk_at d s ds) (tree-ends c s ds short known (p + 1) e) ∙ walks x)
      ∙ ap (in_if_else (waiting_of a.next a.stmt)) (walks y)
  walks {p = p} (a-while {d = d} l m e x) =
      walk-map d p a_while l m ∙ ap in_while (ap (walk_at d s ds) (tree-ends c s ds short known (p + 1) e) ∙ walks x)
  walks {p = p} (a-forever {d = d} l m x) = walk-map d p a_forever l m ∙ ap in_forever (walks x)
  walks {p = p} (a-wait {d = d} m n ts w) =
      let b = n.below in
      walk-map d p a_wait (omega arith) m ∙ ap (λ (k : ℕ). waits (p + 2 + 2 * k)) n.same

  thread-step : (p : ℕ) (b : Body Expr) (ts : List (Stmt Expr)) → ReadsStmt (tree s) c s 64 p b
      → ((i : ℕ) → i < length ts → Stood c s (body_at s ds i b.next) (get_or ts i empty))
      → (i : ℕ) → i < length (b.stmt ∷ ts) → Stood c s (body_at s ds i p) (get_or (b.stmt ∷ ts) i empty)
  unfolding body_at waiting_of
  thread-step p b ts x rest zero h = record { body = b; reads = x; same = refl }
  thread-step p b ts x rest (suc i) h = rw (walks x) (rest i (omega arith))

  pub threads-stood : (n p : ℕ) {l : Listed (Stmt Expr)} → read_threads (tree s) c s n p ≡ ok l
      → (i : ℕ) → i < length l.items → Stood c s (body_at s ds i p) (get_or l.items i empty)
  unfolding read_threads
  threads-stood zero p h = rw (← ok-injective h) (λ i z. absurd (omega arith))
  threads-stood (suc n) p h =
      let b = bind_ok (read_stmt (tree s) c s 64 p) _ h in
      let k = check-ok (leb (size b.0.stmt + 1) 256) 11 p _ b.2 in
      let bs = bind_ok (read_threads (tree s) c s n b.0.next) _ k.1 in
      rw (← ok-injective bs.2)
      (thread-step p b.0 bs.0.items (derive-stmt (tree s) c s 64 p b.1) (threads-stood n b.0.next bs.1))

  -- Rule 17, as its bytes say, is as its tree says.
  pub stood-waits : {p : ℕ} {a : Stmt Expr} {w : Waiting} → Stood c s p a → w ≡ walk_at 64 s ds p → (w.surely && w.loops) ≡ loops_wait
      (forever a)
  unfolding waiting_of loops_wait
  stood-waits x e = ap (λ (v : Waiting). v.surely && v.loops) (e ∙ walks x.reads) ∙ ap (λ (b : Stmt Expr). loops_wait
      (forever b)) x.same

-- Each thread of a sheet that was read stands at its place.
pub record Standing (s ds : List ℕ) (c : Scope) (p : ℕ) (a : Stmt Expr) : Type 0 where
  pub short : length s ≤ 8192
  pub known : Counted s ds c.functions
  pub here : Stood c s p a

stood-by : (s : List ℕ) (r : Sheet Expr) (p : Sections (tree s) s r)
    → let ds = definitions_of r.definitions in
    Counted s ds r.contents.scope.functions → (i : ℕ) → i < length r.contents.threads
    → Standing s ds r.contents.scope (body_at s ds i r.body) (get_or r.contents.threads i empty)
stood-by s r p =
    rw p.made
    (λ known i l. record {
      short = p.short;
      known = known;
      here =
          threads-stood (scope_with p.head p.functions) s (definitions_of p.functions.places) p.short known p.head.threads
          p.wires.next p.threads-read i l;
    })

pub sheet-stood : (s : List ℕ) {x : Sheet Expr} → read_sheet (tree s) s ≡ ok x → (i : ℕ) → i < length x.contents.threads
    → let ds = definitions_of x.definitions in
    Standing s ds x.contents.scope (body_at s ds i x.body) (get_or x.contents.threads i empty)
sheet-stood s {x} h = stood-by s x (sections (tree s) s h) (sheet-counted (tree s) s h)

-- ---- what the call gives, by the answer of reading

abbrev number-of : SheetRead → ℕ
number-of a = a.number

module _ (s names buffer : List ℕ) (i : ℕ) (a : SheetRead) (e : a ≡ sheet_answer (read_sheet (located s) s)) where
  abbrev ds : List ℕ
  ds = a.layout.definitions

  -- A module that was read, its threads and their places.
  record Opened : Type 0 where
    pub contents : Module Expr
    pub reads : explained s names buffer i ≡ explained_in names buffer i (ok contents)
    pub count : a.layout.threads ≡ length contents.threads
    pub stood : i < length contents.threads
        → Standing s ds contents.scope (body_at s ds i a.layout.body) (body_of contents i)

  opened : a.number ≡ 0 → Opened
  unfolding sheet_answer layout_of explained map_res trees map_module body_of
  opened h = by (read_sheet (located s) s) refl
    where
      by : (x : Res (Sheet ℕ)) → read_sheet (located s) s ≡ x → Opened
      by (ok q) g =
          let l : a ≡ sheet_answer (ok q) = e ∙ ap sheet_answer g in
          let t = sheet-located s ∙ ap (map_res (trees s)) g in
          record {
            contents = (trees s q).contents;
            reads = ap (explained_in names buffer i) (read-located s ∙ ap (map_res (λ r. (trees s r).contents)) g);
            count = ap (λ (b : SheetRead). b.layout.threads) l ∙ sym (length-map q.contents.threads _);
            stood = λ z. rw (ap (λ (b : SheetRead). b.layout.body) l, ap (λ (b : SheetRead). b.layout.definitions) l) (sheet-stood s t i z);
          }
      by (no n p) g =
          let k : n ≡ 0 = sym (ap number-of e ∙ ap (λ (y : Res (Sheet ℕ)). (sheet_answer y).number) g) ∙ h in
          let z = numbered-no (sheet-numbered (located s) (located-numbered s) s) g in
          absurd (omega arith)

  pub explain-refused : (a.number ≡ 0 → ⊥) → answer a.number (filled buffer 0) ≡ explained s names buffer i
  unfolding sheet_answer explained explained_in map_res
  explain-refused h = by (read_sheet (located s) s) refl ∙ ap (explained_in names buffer i) (sym (read-located s))
    where
      by : (x : Res (Sheet ℕ)) → read_sheet (located s) s ≡ x
          → answer a.number (filled buffer 0) ≡ explained_in names buffer i (map_res (λ r. (trees s r).contents) x)
      by (ok q) g = absurd (h (ap number-of e ∙ ap (λ (y : Res (Sheet ℕ)). (sheet_answer y).number) g))
      by (no n p) g = ap (λ (k : ℕ). answer k (filled buffer 0))
          (ap number-of e ∙ ap (λ (y : Res (Sheet ℕ)). (sheet_answer y).number) g)

  pub explain-past : a.number ≡ 0 → a.layout.threads ≤ i → answer 17 (filled buffer 0) ≡ explained s names buffer i
  unfolding explained_in body_of loops_wait surely_waits
  explain-past h l =
      let o = opened h in
      let c = o.count in
      sym (o.reads ∙ rw (get_or-eq_default o.contents.threads empty {n = i} (omega arith)) refl)

  module _ (h : a.number ≡ 0) (l : i < a.layout.threads) {p : ℕ} {w : Waiting} (at : p ≡ body_at s ds i a.layout.body)
      (f : w ≡ walk_at 64 s ds p) where
    pub explain-away : (w.surely && w.loops) ≡ false → answer 17 (filled buffer 0) ≡ explained s names buffer i
    unfolding explained_in
    explain-away z =
        let o = opened h in
        let c = o.count in
        let b = o.stood (omega arith) in
        sym (o.reads ∙ rw (sym (stood-waits o.contents.scope s ds b.short b.known b.here (f ∙ ap (walk_at 64 s ds) at)) ∙ z) refl)

    pub explain-read : {t : Text} → (w.surely && w.loops) ≡ true
        → t ≡ thread_at (name_of names) s ds i p (filled buffer 0)
        → answer 0 t ≡ explained s names buffer i
    unfolding explained_in
    explain-read {t} z g =
        let o = opened h in
        let c = o.count in
        let b = o.stood (omega arith) in
        let x = thread-reads (name_of names) o.contents.scope s ds b.short b.known b.here.reads i (filled buffer 0) in
        let y = ap (λ (d : Stmt Expr). puts (filled buffer 0) (thread_text (name_of names) i d)) b.here.same in
        sym (o.reads ∙ rw (sym (stood-waits o.contents.scope s ds b.short b.known b.here (f ∙ ap (walk_at 64 s ds) at)) ∙ z) (ap (answer 0)
        (sym (g ∙ ap (λ (q : ℕ). thread_at (name_of names) s ds i q (filled buffer 0)) at ∙ x ∙ y))))
