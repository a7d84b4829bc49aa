-- The rise of the clock on a plane of cells is the cycle book's: thread by thread, registers and place take the values of the nodes in
-- the row
-- of its wait. Assumes nothing.
use mathlib.Core.Path.{◌≡◌, refl, sym, ap, ◌∙◌}
use mathlib.Core.Bool.{Bool, true, false, ◌||◌}
use mathlib.Core.List.{List}
use Prim.Native.Nat.{ℕ, zero, suc, ◌+◌, ◌-◌, ◌%◌, ◌≤◌, ◌<◌}
use native.Mathlib.Nat.{mod-eq_of_lt, le_refl}
use native.Mathlib.Decide.{dec_lt}
use native.Mathlib.Omega.{arith}
use borrow.Author.Tests.{lt-ltb}
use lib.ListN.{length, get_or, set, replicate, length-set, length-replicate}
use lib.Seq.{get_or-set_same, get_or-set_other}
use Rattle.values.specs.declared.Value.{Value}
use Rattle.values.specs.Values.{pick}
use Rattle.values.specs.Planes.{number_of}
use Rattle.sheet.specs.Expression.{Expr}
use Rattle.sheet.specs.Module.{Module}
use Rattle.masks.specs.Masks.{bits}
use Rattle.events.specs.Cycle.{variables, code_of, instr_at, is_wait, any_below}
use Rattle.events.proofs.Cycle.{Below, at-end, before, below_suc, below_none}
use Rattle.values.specs.Cells.{small, cell_of, value_of, cell_at}
use Rattle.values.proofs.Cells.{value_cell, at_small, at_same}
use Rattle.plan.specs.Plan.{Node, Plan}
use Rattle.plan.specs.Sections.{slot_of}
use Rattle.plan_nodes.specs.Nodes.{work}
use Rattle.nextstate.specs.Rules.{writes, some_thread}
use Rattle.nextstate.specs.Extraction.{Tables}
use Rattle.nextstate.specs.Book as book
use Rattle.nextstate.specs.Book.{Book, row_of, entry, worth, taken, next_place}
use Rattle.nextstate.specs.CycleRun.{tables_in}
use Rattle.clock_nodes.specs.Copying.{cell_in, lows_to}
use Rattle.clock_nodes.specs.Rows.{entry_at, low_to, high_to}
use Rattle.clock_nodes.proofs.Ranges.{Copies, Done, range-done, book-worth, row_low, row-low-place, row-high, row-high-place, row-most}
use Rattle.clock_nodes.specs.Reach.{Counted}
use Rattle.clock_steps.specs.Claims.{Wired, Coded, Lent, Stands, Waiting, Risen}
use Rattle.clock_steps.specs.Taking.{row_in, entry_cell, work_row, take_registers, Taking, taking, place_of, take_row, take_thread}
use Rattle.clock_steps.specs.Taking.{take_below}
use Rattle.clock_steps.specs.Taking.{load_to, store_to, Stand, stand, rise}
use Rattle.clock_steps.proofs.Turns.{risen}
use Rattle.clock_steps.proofs.Rows.{RowIs}
use Rattle.clock_steps.proofs.RowNumbers.{most-same, threads-is}
use Rattle.clock_steps.proofs.Entries.{entry-is, place_in, register-in}
use Rattle.clock_steps.proofs.Taking.{marks, taken-length, taken_at, load-length, load_at, store_length, store_other, store_at}

-- ---- the tables of rows and of their numbers, filled

pub record Filled (m : Module Expr) (ns ls rs written ts numbers : List ℕ) : Type 0 where
  pub number : (i p : ℕ) → i < length m.threads → is_wait (instr_at (code_of m i) p) ≡ true → row_in numbers i p
      ≡ row_of m (tables_in ns rs) i p
  pub row : (i p : ℕ) → i < length m.threads → is_wait (instr_at (code_of m i) p) ≡ true →
      RowIs ns ls rs ts (row_of m (tables_in ns rs) i p) (get_or written i 0)

or-true : (t : Bool) → (t || true) ≡ true
or-true true = refl
or-true false = refl

or-false : (t : Bool) → (t || false) ≡ t
or-false true = refl
or-false false = refl

module _ (m : Module Expr) (q : Plan) (w : Wired m q) (code : Coded m q) (ns us rs written : List ℕ) (l : Lent m ns us rs written)
    (count : ℕ) (k : Counted rs count) (ls : List ℕ) (P : ℕ → Node) (t : Copies m ns us ls P count) (ts numbers : List ℕ)
    (x : Filled m ns (lows_to ns count ls) rs written ts numbers) (b : Book) (s : Stand) (st : Stands m b s)
    (wt : Waiting m (tables_in ns rs) b)
  where
    abbrev T : Tables
    T = tables_in ns rs

    abbrev I : ℕ
    I = m.scope.inputs

    abbrev R : ℕ
    R = m.scope.registers

    -- What the threads below i leave.
    record Taken (i : ℕ) (y : Taking) : Type 0 where
      long : length y.cells ≡ 4176
      kept : (v : ℕ) → v < 80 → get_or y.cells v 0 ≡ get_or s.cells v 0
      room : length y.news ≡ 32
      news : (r : ℕ) → r < R →
          get_or y.news r 0 ≡ pick (any_below i (λ j. writes m j (I + r))) (cell_of (taken m T b i (I + r))) (get_or s.cells (I + r) 0)
      value : (r : ℕ) → r < R → value_of (get_or y.news r 0) ≡ taken m T b i (I + r)
      eight : length y.places ≡ 8
      done : (j : ℕ) → j < i → get_or y.places j 0 ≡ next_place m T b j
      rest : (j : ℕ) → i ≤ j → get_or y.places j 0 ≡ get_or s.places j 0

    -- ---- one thread more

    module _ (i : ℕ) (o : i < length m.threads) (y : Taking) (z : Taken i y) where
      abbrev p : ℕ
      p = b.places i

      abbrev row : ℕ
      row = row_of m T i p

      abbrev mask : List Bool
      mask = bits (get_or written i 0)

      abbrev lo : ℕ
      lo = low_to ns (lows_to ns count ls) rs row mask 32

      abbrev hi : ℕ
      hi = high_to ns rs row mask 32

      abbrev ds : List ℕ
      ds = work P (80 + lo) hi y.cells

      filled : RowIs ns (lows_to ns count ls) rs ts row (get_or written i 0)
      filled = x.row i p o (wt.wait i o)

      row_here : row_in numbers i (get_or y.places i 0) ≡ row
      row_here = ap (row_in numbers i) (z.rest i (le_refl i) ∙ st.place i o) ∙ x.number i p o (wt.wait i o)

      worked-is : work_row P ts row y.cells ≡ ds
      unfolding work_row
      worked-is = rw (filled.low, filled.high)

      vars : (v : ℕ) → v < variables m → cell_at y.cells v ≡ b.values v
      vars v u = at_same y.cells s.cells v (z.kept v (omega (arith, w.few))) ∙ st.value v u

      most : hi ≤ 80 + count
      most =
          row-most ns rs row mask count (place_in m ns us rs written l i p o (wt.wait i o) count k)
          (λ r h e. register-in m ns us rs written l i p o (wt.wait i o) count k r e) 32 (le_refl 32)

      done : Done m ns us ls P count t b.values y.cells z.long vars lo ds hi
      done = range-done m ns us ls P count t b.values y.cells z.long vars lo hi most

      cell-is : (c : ℕ) → c < 33 → cell_at ds (entry_cell ts row c) ≡ cell_at ds (slot_of (cell_in ns (entry_at rs row c)))
      unfolding entry_cell
      cell-is c h = rw (filled.entry c h)

      place-value : cell_at ds (entry_cell ts row 32) ≡ worth m T b.values (entry m T i p 32)
      place-value =
          cell-is 32 (omega arith)
          ∙ done.right (entry_at rs row 32) (place_in m ns us rs written l i p o (wt.wait i o) count k)
          (λ d. (row-low-place ns (lows_to ns count ls) rs row mask d, row-high-place ns rs row mask d))
          ∙ book-worth m ns rs t.fit b.values (entry_at rs row 32)
          ∙ ap (worth m T b.values) (sym (entry-is m ns us rs written l i p o (wt.wait i o) 32))

      register-value : (r : ℕ) → r < 32 → get_or mask r false ≡ true → cell_at ds (entry_cell ts row r)
          ≡ worth m T b.values (entry m T i p r)
      register-value r h e =
          cell-is r (omega arith)
          ∙ done.right (entry_at rs row r) (register-in m ns us rs written l i p o (wt.wait i o) count k r e)
          (λ d. (row_low ns (lows_to ns count ls) rs row mask r h e d, row-high ns rs row mask r h e d))
          ∙ book-worth m ns rs t.fit b.values (entry_at rs row r)
          ∙ ap (worth m T b.values) (sym (entry-is m ns us rs written l i p o (wt.wait i o) r))

      next-is : next_place m T b i ≡ number_of (worth m T b.values (entry m T i p 32))
      unfolding next_place
      next-is = rw (lt-ltb i (length m.threads) o)

      placed : place_of (get_or ds (entry_cell ts row 32) 0) ≡ next_place m T b i
      unfolding place_of cell_at
      placed =
          ap (λ (v : Value). number_of v % 256) place-value ∙ ap (λ (n : ℕ). n % 256) (sym next-is) ∙ mod-eq_of_lt (wt.byte i o)

      -- ---- the registers

      abbrev W : ℕ → Value
      W r = worth m T b.values (entry m T i p r)

      abbrev xs : List ℕ
      xs = take_registers ts row ds R y.news

      marks-is : (r : ℕ) → marks ts row ds y.news r ≡ writes m i (I + r)
      marks-is r = ap (λ (n : ℕ). get_or (bits n) r false) filled.marks ∙ l.writers i r o

      next-taken : (r : ℕ) → taken m T b (suc i) (I + r) ≡ pick (writes m i (I + r)) (W r) (taken m T b i (I + r))
      unfolding taken
      next-taken r = let e : I + r - I ≡ r = omega arith in rw e

      written-value : (r : ℕ) → r < R → writes m i (I + r) ≡ true → cell_at ds (entry_cell ts row r) ≡ W r
      written-value r u e = register-value r (omega (arith, l.registers)) (l.writers i r o ∙ e)

      news-at : (r : ℕ) → r < R → get_or xs r 0 ≡ pick (writes m i (I + r)) (cell_of (W r)) (get_or y.news r 0)
      news-at r u = taken_at ts row ds y.news R r u (omega (arith, z.room, l.registers)) ∙ by (writes m i (I + r)) refl
        where
          by : (t : Bool) → writes m i (I + r) ≡ t →
              pick (marks ts row ds y.news r) (cell_of (cell_at ds (entry_cell ts row r))) (get_or y.news r 0)
              ≡ pick t (cell_of (W r)) (get_or y.news r 0)
          by true e = rw (marks-is r ∙ e) (ap cell_of (written-value r u e))
          by false e = rw (marks-is r ∙ e)

      news-more : (r : ℕ) → r < R →
          get_or xs r 0 ≡ pick (any_below (suc i) (λ j. writes m j (I + r))) (cell_of (taken m T b (suc i) (I + r)))
          (get_or s.cells (I + r) 0)
      unfolding any_below
      news-more r u = news-at r u ∙ rw (next-taken r) (by (writes m i (I + r)))
        where
          some : Bool
          some = any_below i (λ j. writes m j (I + r))

          by : (t : Bool) →
              pick t (cell_of (W r)) (get_or y.news r 0)
              ≡ pick (some || t) (cell_of (pick t (W r) (taken m T b i (I + r)))) (get_or s.cells (I + r) 0)
          by true = rw (or-true some)
          by false = rw (or-false some) (z.news r u)

      value-more : (r : ℕ) → r < R → value_of (get_or xs r 0) ≡ taken m T b (suc i) (I + r)
      value-more r u = ap value_of (news-at r u) ∙ rw (next-taken r) (by (writes m i (I + r)) refl)
        where
          little : writes m i (I + r) ≡ true → small (W r) ≡ true
          little e = rw (written-value r u e) at (at_small ds (entry_cell ts row r))

          by : (t : Bool) → writes m i (I + r) ≡ t →
              value_of (pick t (cell_of (W r)) (get_or y.news r 0)) ≡ pick t (W r) (taken m T b i (I + r))
          by true e = value_cell (W r) (little e)
          by false e = z.value r u

      abbrev next : ℕ
      next = place_of (get_or ds (entry_cell ts row 32) 0)

      row-taken : Taken (suc i) (take_row ts row R i ds y)
      unfolding take_row
      row-taken =
          record {
            long = done.long;
            kept = λ v u. done.kept v u ∙ z.kept v u;
            room = taken-length ts row ds y.news R ∙ z.room;
            news = news-more;
            value = value-more;
            eight = length-set y.places i next ∙ z.eight;
            done = λ j u. by j (below_suc i j u);
            rest = λ j u. get_or-set_other y.places i j next 0 (λ e. omega arith) ∙ z.rest j (omega arith);
          }
        where
          by : (j : ℕ) → Below i j → get_or (set y.places i next) j 0 ≡ next_place m T b j
          by j (at-end e) = rw e (get_or-set_same y.places i next 0 (omega (arith, z.eight, code.eight)) ∙ placed)
          by j (before u) = get_or-set_other y.places i j next 0 (λ e. omega arith) ∙ z.done j u

      thread-is : take_thread P ts numbers R i y ≡ take_row ts row R i ds y
      unfolding take_thread
      thread-is =
          ap (λ (n : ℕ). take_row ts n R i (work_row P ts n y.cells) y) row_here
          ∙ ap (λ (c : List ℕ). take_row ts row R i c y) worked-is

      thread-taken : Taken (suc i) (take_thread P ts numbers R i y)
      thread-taken = rw thread-is row-taken

    -- ---- all threads

    threads-taken : (n : ℕ) (y : Taking) → n ≤ length m.threads → Taken 0 y → Taken n (take_below P ts numbers R n y)
    unfolding take_below
    threads-taken zero y h z = z
    threads-taken (suc n) y h z = thread-taken n h (take_below P ts numbers R n y) (threads-taken n y (omega arith) z)

    abbrev loaded : List ℕ
    loaded = load_to s.cells I R (replicate 32 0)

    at-loaded : (r : ℕ) → r < R → get_or loaded r 0 ≡ get_or s.cells (I + r) 0
    at-loaded r u =
        load_at s.cells I (replicate 32 0) R r u (omega (arith, l.registers, length-replicate {A = ℕ} 32 0))
        (omega (arith, l.inside, w.few))

    first : Taken 0 (taking s.cells loaded s.places)
    unfolding any_below taken cell_at
    first =
        record {
          long = st.long;
          kept = λ v u. refl;
          room = load-length s.cells I (replicate 32 0) R ∙ length-replicate {A = ℕ} 32 0;
          news = at-loaded;
          value = λ r u. ap value_of (at-loaded r u) ∙ st.value (I + r) (omega (arith, l.inside));
          eight = st.eight;
          done = λ j u. absurd (omega arith);
          rest = λ j u. refl;
        }

    abbrev N : ℕ
    N = length m.threads

    abbrev end : Taking
    end = take_below P ts numbers R N (taking s.cells loaded s.places)

    last : Taken N end
    last = threads-taken N (taking s.cells loaded s.places) (le_refl N) first

    -- ---- put back

    abbrev cs : List ℕ
    cs = store_to end.news I R end.cells

    rise-is : rise q P ts numbers s ≡ stand cs end.places
    rise-is =
        risen P ts numbers s.cells s.places q
        ∙ rw (w.inputs, w.registers, most-same 32 R l.registers, threads-is m q code)

    inside : I + R ≤ 80
    inside = omega (arith, l.inside, w.few)

    unwritten : (v : ℕ) → ((I ≤ v) × (v < I + R) → ⊥) → (i : ℕ) → i < N → writes m i v ≡ false
    unwritten v d i u = by (writes m i v) refl
      where
        by : (t : Bool) → writes m i v ≡ t → t ≡ false
        by true e = absurd (d (l.only i v u e))
        by false e = refl

    taken_none : (n v : ℕ) → ((i : ℕ) → i < n → writes m i v ≡ false) → taken m T b n v ≡ b.values v
    unfolding taken
    taken_none zero v d = refl
    taken_none (suc n) v d = rw (d n (omega arith)) (taken_none n v (λ i h. d i (omega arith)))

    data Kind (v : ℕ) : Type 0 where
      register : (r : ℕ) → r < R → v ≡ I + r → Kind v
      other : ((I ≤ v) × (v < I + R) → ⊥) → Kind v

    kind : (v : ℕ) → Kind v
    kind v = by (dec_lt v I) (dec_lt v (I + R))
      where
        by : Dec (v < I) → Dec (v < I + R) → Kind v
        by (yes h) d = other (λ u. omega (arith, u.0))
        by (no h) (yes d) = register (v - I) (omega arith) (omega arith)
        by (no h) (no d) = other (λ u. omega (arith, u.1))

    cell-register : (r : ℕ) → r < R → get_or cs (I + r) 0 ≡ get_or end.news r 0
    cell-register r u = store_at end.news I end.cells R inside (omega (arith, last.long)) r u

    cell_other : (v : ℕ) → v < 80 → ((I ≤ v) × (v < I + R) → ⊥) → get_or cs v 0 ≡ get_or s.cells v 0
    cell_other v h d =
        store_other end.news I end.cells R inside v (λ r u e. d (omega arith, omega arith)) ∙ last.kept v h

    values-taken : (v : ℕ) → v < variables m → cell_at cs v ≡ taken m T b N v
    unfolding cell_at
    values-taken v h = by (kind v)
      where
        by : Kind v → value_of (get_or cs v 0) ≡ taken m T b N v
        by (register r u e) = rw e (ap value_of (cell-register r u) ∙ last.value r u)
        by (other d) =
            ap value_of (cell_other v (omega (arith, w.few)) d)
            ∙ st.value v h
            ∙ sym (taken_none N v (unwritten v d))

    cells-taken : (v : ℕ) → v < 80 →
        get_or cs v 0 ≡ pick (any_below N (λ i. writes m i v)) (cell_of (taken m T b N v)) (get_or s.cells v 0)
    cells-taken v h = by (kind v)
      where
        by : Kind v → get_or cs v 0 ≡ pick (any_below N (λ i. writes m i v)) (cell_of (taken m T b N v)) (get_or s.cells v 0)
        by (register r u e) = rw e (cell-register r u ∙ last.news r u)
        by (other d) = rw (below_none (λ i. writes m i v) N (unwritten v d)) (cell_other v h d)

    stand-risen : Risen m T b s (stand cs end.places)
    unfolding book.rise some_thread
    stand-risen =
        record {
          stands =
              record {
                long = store_length end.news I end.cells R inside ∙ last.long;
                value = values-taken;
                eight = last.eight;
                place = λ i u. last.done i u;
              };
          cell = cells-taken;
          past = λ i u. last.rest i u;
        }

    pub rise-same : Risen m T b s (rise q P ts numbers s)
    rise-same = rw rise-is stand-risen
