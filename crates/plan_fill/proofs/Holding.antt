-- The plan that `fill` leaves of an accepted sheet holds what specs/Holding says, whatever it held before. Assumes nothing.
use mathlib.Core.Path.{◌≡◌, refl, sym, ap, ◌∙◌, subst}
use mathlib.Core.Bool.{Bool, true, false}
use mathlib.Core.List.{List, [], ◌∷◌, map}
use Prim.Native.Nat.{ℕ, zero, suc, ◌+◌, ◌%◌, ◌≤◌, ◌<◌}
use native.Mathlib.Nat.{le_refl, mod-eq_of_lt}
use native.Mathlib.Omega.{arith}
use borrow.Author.Tests.{lt-ltb, ltb-true}
use lib.Dec.{ltb}
use Rattle.values.specs.Values.{pick}
use lib.ListN.{length, get_or, replicate, length-replicate, length-map}
use Rattle.masks.specs.Masks.{bits}
use Rattle.sheet.specs.Reading.{Res, ok, no}
use Rattle.sheet.specs.Expression.{Expr, unknown, Scope, located, expr_at}
use Rattle.sheet.specs.Statement.{Stmt, empty, map_stmt}
use Rattle.sheet.specs.Module.{Module, map_module, widths_at, Sheet, read_sheet, read}
use Rattle.sheet.specs.declared.Layout.{Layout}
use Rattle.sheet.specs.Answers.{starts_of, definitions_of, layout_of, sheet_answer}
use Rattle.sheet.proofs.Trees.{trees, map_res, read-located}
use Rattle.sheet.proofs.Reading.{no≢ok}
use Rattle.pseudocode.specs.Translation.{Instr, go, thread_code}
use Rattle.pseudocode.specs.Compiling.{Compiled, compile_at}
use Rattle.pseudocode.specs.Fetching as fetching
use Rattle.pseudocode.specs.Translated.{Compiles}
use Rattle.pseudocode.proofs.Compiling.{compile-law}
use Rattle.plan.specs.Sections.{code_place, readers_place, watchers_place, width_place, size_place, wire_place}
use Rattle.plan.specs.Plan.{plan_of, node_at, readers_at, watchers_at, width_at, size_at}
use Rattle.plan_exprs.proofs.Flatten.{count, four-length}
use Rattle.tables.specs.Readers.{at_most, readers_below}
use Rattle.tables.proofs.Readers.{at_most-most, at_most-same}
use Rattle.tables.proofs.Marking.{Below}
use Rattle.tables.proofs.Placing.{Coded}
use Rattle.tables.proofs.Holding.{Accepted, accepted, wire-read, marked, thread-below, thread-size, size-at, coded-at, module-same}
use Rattle.plan_fill.specs.Filling.{up_to, put_four, copy_word, put_width, put_size, watch_thread, Filling, filling, fill_wire, fill_thread}
use Rattle.plan_fill.specs.Filling.{with_counts, with_widths, with_readers, with_watchers, with_sizes, with_wires, with_threads}
use Rattle.plan_fill.specs.Filling.{code_of, filled_plan}
use Rattle.plan_fill.specs.Holding.{Lies, Planned, names, Holds}
use Rattle.plan_fill.proofs.Filling.{plan-filled}
use Rattle.plan_fill.proofs.Kept.{Kept, sum_below, sum_over, sum-list, Ran}
use Rattle.plan_fill.proofs.Room.{nodes_of, total}
use Rattle.plan_fill.proofs.Laying.{Ready, Four, four-put, planned, WireIn, lies-kept, wire-planned}
use Rattle.plan_fill.proofs.Sections.{Put, put_up, Tabled, tabled, tabled-kept}
use Rattle.plan_fill.proofs.Watching.{watched-below}
use Rattle.plan_fill.proofs.Accepting.{counts-first, Sheeted, sheeted}
use Rattle.plan_fill.proofs.Stages.{WireMade, wires-ran, ThreadMade, threads-ran}

-- ---- sums over a list of trees

sum-map : {A B : Type 0} (f : B → ℕ) (g : A → B) (xs : List A) → sum_over f (map g xs) ≡ sum_over (λ x. f (g x)) xs
unfolding sum_over
sum-map f g [] = refl
sum-map f g (x ∷ xs) = ap (λ (n : ℕ). f (g x) + n) (sum-map f g xs)

sum_same : (f g : ℕ → ℕ) → ((k : ℕ) → f k ≡ g k) → (n : ℕ) → sum_below f n ≡ sum_below g n
unfolding sum_below
sum_same f g e zero = refl
sum_same f g e (suc n) = let a = sum_same f g e n in let b = e n in omega arith

-- ---- the sections that are put word by word

module _ (l : Layout) (ws : List ℕ) (long : length ws ≡ 25212) where
  with-counts : Four (with_counts l ws) 25200 l.inputs l.registers l.wires l.threads
  unfolding with_counts
  with-counts = four-put 25200 l.inputs l.registers l.wires l.threads ws (omega arith)

  counts-long : length (with_counts l ws) ≡ 25212
  unfolding with_counts put_four
  counts-long = four-length 25200 l.inputs l.registers l.wires l.threads ws ∙ long

  with-widths : (s : List ℕ)
      → Put 25120 (at_most 80 (l.inputs + l.registers + l.wires)) (λ v. get_or s (at_most 5 l.widths + v) 0) ws (with_widths s l ws)
  unfolding with_widths put_width
  with-widths s =
      put_up (put_width s (at_most 5 l.widths)) 25120 (λ v. get_or s (at_most 5 l.widths + v) 0) (λ k us. refl)
      (at_most 80 (l.inputs + l.registers + l.wires)) ws (omega (arith, at_most-most 80 (l.inputs + l.registers + l.wires)))

  with-readers : (s : List ℕ)
      → Put 24960 80 (λ v. get_or (readers_below s l.definitions l.starts (at_most 32 l.wires) (replicate 80 0)) v 0) ws
      (with_readers s l ws)
  unfolding with_readers copy_word
  with-readers s =
      let rs = readers_below s l.definitions l.starts (at_most 32 l.wires) (replicate 80 0) in
      put_up (copy_word rs 24960) 24960 (λ v. get_or rs v 0) (λ k us. refl) 80 ws (omega arith)

module _ (ws : List ℕ) (long : length ws ≡ 25212) where
  with-watchers : (s code sizes : List ℕ) (n : ℕ)
      → Put 25040 80 (λ v. get_or (up_to (watch_thread s code sizes) n (replicate 80 0)) v 0) ws (with_watchers s code sizes n ws)
  unfolding with_watchers copy_word
  with-watchers s code sizes n =
      let rs = up_to (watch_thread s code sizes) n (replicate 80 0) in
      put_up (copy_word rs 25040) 25040 (λ v. get_or rs v 0) (λ k us. refl) 80 ws (omega arith)

  with-sizes : (sizes : List ℕ) → Put 25204 8 (λ i. at_most 256 (get_or sizes i 0)) ws (with_sizes sizes ws)
  unfolding with_sizes put_size
  with-sizes sizes = put_up (put_size sizes) 25204 (λ i. at_most 256 (get_or sizes i 0)) (λ k us. refl) 8 ws (omega arith)

-- ---- a word by its number

module _ (ws : List ℕ) (v a : ℕ) where
  readers-back : v < 80 → get_or ws (readers_place v) 0 ≡ a → readers_at ws v ≡ bits a
  unfolding readers_at
  readers-back h e = rw (lt-ltb v 80 h, e)

  watchers-back : v < 80 → get_or ws (watchers_place v) 0 ≡ a → watchers_at ws v ≡ bits a
  unfolding watchers_at
  watchers-back h e = rw (lt-ltb v 80 h, e)

  width_back : v < 80 → get_or ws (width_place v) 0 ≡ a → a < 256 → width_at ws v ≡ a
  unfolding width_at
  width_back h e l = rw (lt-ltb v 80 h, e, mod-eq_of_lt {m = 256} l)

  size_back : v < 8 → get_or ws (size_place v) 0 ≡ a → size_at ws v ≡ a
  unfolding size_at
  size_back h e = rw (lt-ltb v 8 h, e)

-- A wire stays while the threads' nodes and code are filled in.
wire-after : {base m n k a b : ℕ} {ws us : List ℕ} {e : Expr} → m ≤ n → b ≤ 24896 → Kept m a b ws us
    → WireIn base m ws k e → WireIn base n us k e
wire-after {base} {m} {n} {k} {ws = ws} {us = us} {e = e} h l y x =
    record {
      first = x.first;
      root = x.root;
      at_first = y.after (wire_place k) (omega arith) ∙ x.at_first;
      at-root = y.after (wire_place k + 1) (omega arith) ∙ x.at-root;
      lies = lies-kept base m n ws us e _ h y.below x.lies;
    }

-- ---- an accepted sheet

module _ (s : List ℕ) (r : Sheet ℕ) (ws : List ℕ) (x : Accepted s r) (y : Sheeted s r) (long : length ws ≡ 25212) where
  abbrev scope : Scope
  scope = r.contents.scope

  abbrev vs : List ℕ
  vs = scope.widths

  abbrev at : ℕ → Expr
  at = expr_at s scope

  abbrev wires : List Expr
  wires = map at r.contents.wires

  abbrev threads : List (Stmt Expr)
  threads = map (map_stmt at) r.contents.threads

  abbrev is : ℕ → List (Instr Expr)
  is i = thread_code (get_or threads i empty)

  abbrev blank : List ℕ
  blank = replicate 4096 0

  abbrev definitions : List ℕ
  definitions = definitions_of r.definitions

  abbrev table : Compiled
  table = compile_at s definitions (length r.contents.threads) r.body blank

  abbrev starts : List ℕ
  starts = starts_of r.contents.wires

  wires-same : length wires ≡ length r.contents.wires
  wires-same = length-map r.contents.wires at

  threads-same : length threads ≡ length r.contents.threads
  threads-same = length-map r.contents.threads (map_stmt at)

  wires-cut : at_most 32 (length r.contents.wires) ≡ length wires
  wires-cut = at_most-same 32 (length r.contents.wires) x.wires ∙ sym wires-same

  threads-cut : at_most 8 (length r.contents.threads) ≡ length threads
  threads-cut = at_most-same 8 (length r.contents.threads) x.threads ∙ sym threads-same

  -- ---- the sums

  wires-sum : sum_below (λ k. count (get_or wires k (unknown 1))) (length wires) ≡ sum_over (λ p. count (at p)) r.contents.wires
  wires-sum = sum-list count (unknown 1) wires ∙ sum-map count at r.contents.wires

  threads-sum : sum_below (λ i. sum_below (λ p. nodes_of (get_or (is i) p (go 0))) (length (is i))) (length threads)
      ≡ sum_over (λ a. total (thread_code (map_stmt at a))) r.contents.threads
  threads-sum =
      sum_same (λ i. sum_below (λ p. nodes_of (get_or (is i) p (go 0))) (length (is i))) (λ i. total (is i))
      (λ i. sum-list nodes_of (go 0) (is i)) (length threads)
      ∙ sum-list (λ a. total (thread_code a)) empty threads
      ∙ sum-map (λ a. total (thread_code a)) (map_stmt at) r.contents.threads

  -- ---- the code

  module _ (z : Compiles s r.contents.threads table) where
    code-most : (i : ℕ) → i < length threads → length (is i) ≤ 256
    code-most i h =
        let n = thread-size s blank r x i in
        let m = (x.thread i (thread-below s blank r x i h)).most in
        omega arith

    coded : (i p : ℕ) → i < length threads → p < length (is i)
        → Coded scope s (get_or (is i) p (go 0)) (fetching.fetch_at s table.code i p)
    coded = coded-at s blank r x z

    sized : (i : ℕ) → i < length threads → at_most 256 (get_or table.sizes i 0) ≡ length (is i)
    sized i h = ap (at_most 256) (size-at s blank r x z i h) ∙ at_most-same 256 (length (is i)) (code-most i h)

    watched : Below (λ i. names (is i)) (length threads)
        (up_to (watch_thread s table.code table.sizes) (length threads) (replicate 80 0))
    watched =
        let m = x.threads in
        let e = threads-same in
        watched-below scope s x.widths table.code table.sizes is (length threads) (omega arith) coded sized (length threads)
        (le_refl (length threads))

    -- ---- the stages

    abbrev base-words : List ℕ
    base-words =
        with_sizes table.sizes
        (with_watchers s table.code table.sizes (length threads)
        (with_readers s (layout_of r) (with_widths s (layout_of r) (with_counts (layout_of r) ws))))

    abbrev wired : Filling
    wired = up_to (fill_wire s starts) (length wires) (filling 80 base-words)

    abbrev done : Filling
    done = up_to (fill_thread s table.code table.sizes) (length threads) wired

    filled-done : filled_plan s (layout_of r) ws ≡ done.words
    unfolding layout_of with_threads with_wires code_of
    filled-done =
        sym (plan-filled s (layout_of r) ws {code = table.code} {sizes = table.sizes} {n = length threads} {g = done}
        refl refl (sym threads-cut) refl refl (ap (λ (n : ℕ). up_to (fill_wire s starts) n (filling 80 base-words)) (sym wires-cut)) refl)

    abbrev Words : List ℕ → Type 0
    Words us =
        Tabled r.contents.scope.inputs r.contents.scope.registers (length r.contents.wires) (length r.contents.threads)
        (length vs) (λ v. get_or s (widths_at scope.declared + v) 0)
        (λ v. get_or (readers_below s definitions starts (length wires) (replicate 80 0)) v 0)
        (λ v. get_or (up_to (watch_thread s table.code table.sizes) (length threads) (replicate 80 0)) v 0)
        (λ i. at_most 256 (get_or table.sizes i 0)) us

    widths-cut : at_most 80 (r.contents.scope.inputs + r.contents.scope.registers + length r.contents.wires) ≡ length vs
    widths-cut =
        let e = y.bytes.long in
        let m = x.widths in
        at_most-same 80 (r.contents.scope.inputs + r.contents.scope.registers + length r.contents.wires) (omega arith) ∙ sym e

    widths-place : at_most 5 (widths_at scope.declared) ≡ widths_at scope.declared
    widths-place = at_most-same 5 (widths_at scope.declared) (counts-first scope.declared).1

    base-tabled : Words base-words
    unfolding layout_of
    base-tabled =
        let l = layout_of r in
        let u1 = with_counts l ws in
        let l1 = counts-long l ws long in
        let u2 = with_widths s l u1 in
        let p2 = with-widths l u1 l1 s in
        let u3 = with_readers s l u2 in
        let l2 : length u2 ≡ 25212 = p2.long ∙ l1 in
        let p3 = with-readers l u2 l2 s in
        let l3 : length u3 ≡ 25212 = p3.long ∙ l2 in
        let u4 = with_watchers s table.code table.sizes (length threads) u3 in
        let p4 = with-watchers u3 l3 s table.code table.sizes (length threads) in
        let l4 : length u4 ≡ 25212 = p4.long ∙ l3 in
        tabled u1 u2 u3 u4 base-words l1 x.widths (with-counts l ws long) (rw (widths-cut, widths-place) at p2) (rw wires-cut at p3) p4
        (with-sizes u4 l4 table.sizes)

    base-ready : Ready vs base-words
    base-ready =
        let t = base-tabled in
        let m = x.widths in
        record {
          widths = record {
            same = λ v u. let b = y.bytes.narrow v u in
                width_back base-words v (get_or vs v 0) (omega arith) (t.width v u ∙ y.bytes.same v u) (omega arith);
            narrow = y.bytes.narrow;
            long = let l = t.long in omega arith;
          };
          long = t.long;
        }

    room : 80 + sum_below (λ k. count (get_or wires k (unknown 1))) (length wires)
        + sum_below (λ i. sum_below (λ p. nodes_of (get_or (is i) p (go 0))) (length (is i))) (length threads) ≤ 4175
    room = let a = wires-sum in let b = threads-sum in let c = y.room in omega arith

    abbrev wire : ℕ → Expr
    wire k = get_or wires k (unknown 1)

    wires-few : length wires ≤ 32
    wires-few = let e = wires-same in let m = x.wires in omega arith

    threads-few : length threads ≤ 8
    threads-few = let e = threads-same in let m = x.threads in omega arith

    wires-done : Ran
        (WireMade scope x.closed s y.short x.widths starts wire (length wires) wires-few (wire-read s blank r x))
        (Ready vs) (fill_wire s starts) (λ k. count (wire k)) wire_place (length wires) (filling 80 base-words) wired
    wires-done =
        let a = room in
        wires-ran scope x.closed s y.short x.widths starts wire (length wires) wires-few (wire-read s blank r x)
        (filling 80 base-words) (omega arith) base-ready (omega arith)

    threads-done : Ran
        (ThreadMade scope x.closed s y.short x.widths table.code table.sizes is (length threads) threads-few code-most
        coded sized)
        (Ready vs) (fill_thread s table.code table.sizes) (λ i. sum_below (λ p. nodes_of (get_or (is i) p (go 0))) (length (is i)))
        (λ i. code_place i 0) (length threads) wired done
    threads-done =
        let a = room in
        let b = wires-done.free in
        threads-ran scope x.closed s y.short x.widths table.code table.sizes is (length threads) threads-few code-most
        coded sized wired (omega arith) wires-done.ready (omega arith)

    end-most : done.free ≤ 4175
    end-most = let a = room in let b = wires-done.free in let c = threads-done.free in omega arith

    done-tabled : Words done.words
    done-tabled =
        let a = wires-few in
        let b = threads-few in
        tabled-kept (omega arith) threads-done.kept (tabled-kept (omega arith) wires-done.kept base-tabled)

    wire-done : (k : ℕ) → k < length wires → Lies (node_at done.words) (length vs) 4176 (wire k) ((plan_of done.words).wire k)
    wire-done k h =
        let a = wires-few in
        let b = threads-few in
        let c = threads-done.free in
        wire-planned (omega arith) end-most (wire-after (omega arith) (omega arith) threads-done.kept (wires-done.made k h))

    instr-done : (i p : ℕ) → i < length threads → p < length (is i)
        → Planned (node_at done.words) (length vs) 4176 (get_or (is i) p (go 0))
        ((plan_of done.words).instruction i p) ((plan_of done.words).waits i p)
    instr-done i p h l =
        let a = threads-few in
        let b = code-most i h in
        planned (length vs) done.free done.words i p (omega arith) end-most (threads-done.made i h p l (omega arith))

    no_size : (i : ℕ) → length threads ≤ i → size_at done.words i ≡ 0
    unfolding size_at at_most
    no_size i h = by (ltb i 8) refl
      where
        by : (b : Bool) → ltb i 8 ≡ b → pick b (get_or done.words (size_place i) 0) 0 ≡ 0
        by true e =
            let a = threads-same in
            done-tabled.size i (ltb-true i 8 e) ∙ ap (at_most 256) (z.no_size i (omega arith))
        by false e = refl

    done-holds : Holds (trees s r).contents (plan_of done.words)
    unfolding trees map_module
    done-holds =
        let t = done-tabled in
        let ii = y.bytes.inputs in
        let rr = y.bytes.registers in
        let ww = x.wires in
        let tt = x.threads in
        let vv = x.widths in
        record {
          inputs = ap (λ (n : ℕ). n % 256) t.inputs ∙ mod-eq_of_lt (omega arith);
          registers = ap (λ (n : ℕ). n % 256) t.registers ∙ mod-eq_of_lt (omega arith);
          wires = ap (λ (n : ℕ). n % 256) t.wires ∙ mod-eq_of_lt (omega arith) ∙ sym wires-same;
          threads = ap (λ (n : ℕ). n % 256) t.threads ∙ mod-eq_of_lt (omega arith) ∙ sym threads-same;
          width = λ v u. let b = y.bytes.narrow v u in
              width_back done.words v (get_or vs v 0) (omega arith) (t.width v u ∙ y.bytes.same v u) (omega arith);
          size = λ i u. let a = threads-few in
              size_back done.words i (length (is i)) (omega arith) (t.size i (omega arith) ∙ sized i u);
          no_size = no_size;
          wire = wire-done;
          instruction = instr-done;
          read_by = λ v k u h. ap (λ (bs : List Bool). get_or bs k false) (readers-back done.words v _ u (t.readers-at v u))
              ∙ (marked s blank r x).own v k u h;
          read-by-none = λ v k u h. ap (λ (bs : List Bool). get_or bs k false) (readers-back done.words v _ u (t.readers-at v u))
              ∙ (marked s blank r x).none v k h;
          watched-by = λ v i u h. ap (λ (bs : List Bool). get_or bs i false) (watchers-back done.words v _ u (t.watchers-at v u))
              ∙ watched.own v i u h;
          watched-by-none = λ v i u h. ap (λ (bs : List Bool). get_or bs i false) (watchers-back done.words v _ u (t.watchers-at v u))
              ∙ watched.none v i h;
        }

    filled-trees : Holds (trees s r).contents (plan_of (filled_plan s (layout_of r) ws))
    filled-trees = subst (λ (us : List ℕ). Holds (trees s r).contents (plan_of us)) (sym filled-done) done-holds

-- ---- the laws: of every sheet that is accepted, whatever the lent plan held before

pub filled-holds : (s : List ℕ) (r : Sheet ℕ) (m : Module Expr) (ws : List ℕ) → read_sheet (located s) s ≡ ok r → read s ≡ ok m
    → length ws ≡ 25212 → Holds m (plan_of (filled_plan s (layout_of r) ws))
filled-holds s r m ws h e long =
    subst (λ (n : Module Expr). Holds n (plan_of (filled_plan s (layout_of r) ws))) (module-same s r m h e)
    (filled-trees s r ws (accepted s r h) (sheeted s r h) long (compile-law s (replicate 4096 0) r h (length-replicate {A = ℕ} 4096 0)))

-- By the layout that `sheet::read` answers.
pub read-holds : (s : List ℕ) (m : Module Expr) (ws : List ℕ) → read s ≡ ok m → length ws ≡ 25212
    → Holds m (plan_of (filled_plan s (sheet_answer (read_sheet (located s) s)).layout ws))
unfolding sheet_answer map_res
read-holds s m ws e long = by (read_sheet (located s) s) refl
  where
    by : (x : Res (Sheet ℕ)) → read_sheet (located s) s ≡ x → Holds m (plan_of (filled_plan s (sheet_answer x).layout ws))
    by (ok r) h = filled-holds s r m ws h e long
    by (no n p) h = absurd (no≢ok (sym (read-located s ∙ ap (map_res (λ r. (trees s r).contents)) h) ∙ e))
