-- Many cycles on one plane of cells are cycle run after cycle run, each handed what the last one gave back. Assumes nothing.
use mathlib.Core.Path.{◌≡◌, refl, sym, ap, ◌∙◌}
use mathlib.Core.Logic.{◌≢◌}
use mathlib.Core.Bool.{Bool, true, false, ◌&&◌}
use mathlib.Core.List.{List}
use Prim.Native.Nat.{ℕ, zero, suc, ◌+◌, ◌-◌, ◌*◌, ◌/◌, ◌≤◌, ◌<◌}
use native.Mathlib.Decide.{dec_lt}
use native.Mathlib.Omega.{arith}
use borrow.Author.Tests.{lt-ltb, le-ltb, ne_eqb, eq-eqb}
use lib.Dec.{ltb, eqb}
use lib.ListN.{length, get_or, replicate, length-replicate}
use lib.Seq.{ext_get_or}
use Rattle.values.specs.declared.Value.{Value}
use Rattle.values.specs.Values.{pick, known, ones, nowhere, fits}
use Rattle.values.specs.Planes.{value_at, number_of, marks_of}
use Rattle.sheet.specs.Expression.{Expr}
use Rattle.sheet.specs.Module.{Module}
use Rattle.soundness.specs.Soundness.{Fitting, Sound}
use Rattle.events.specs.declared.Inputs.{Inputs}
use Rattle.events.specs.Cycle.{variables, code_of, instr_at, is_wait, wire_variable, all_below}
use Rattle.events.specs.Calls.{width_of, input_of}
use Rattle.events.proofs.Cycle.{absurd-bool, all_same, below_all, below_none}
use Rattle.values.specs.Cells.{small, cell_of, cell_at}
use Rattle.values.proofs.Cells.{at_small}
use Rattle.plan.specs.Plan as plan
use Rattle.plan_fill.specs.Holding.{Holds}
use Rattle.nextstate.specs.declared.Registers.{Registers}
use Rattle.nextstate.specs.declared.Clocked.{Clocked}
use Rattle.nextstate.specs.Rules.{writes, some_thread}
use Rattle.nextstate.specs.Extraction.{Tables}
use Rattle.nextstate.specs.Book as book
use Rattle.nextstate.specs.CycleRun.{tables_in, registers_fit, upper_inputs_fit, handed, clocked, given, refused, clocked_in}
use Rattle.nextstate.specs.Ruled.{Ruled}
use Rattle.settling.proofs.Settle.{settle_other, settle-agree, settle-fits, clock-apart}
use Rattle.clock_nodes.specs.Copying.{copy_all, low_all}
use Rattle.clock_steps.specs.Settling.{settle}
use Rattle.clock_steps.specs.Taking.{Stand, stand, at_most}
use Rattle.clock_steps.specs.Numbers.{number_rows, fill_rows}
use Rattle.clock_nodes.specs.Reach.{Counted}
use Rattle.clock_steps.specs.Claims.{Room, Stands}
use Rattle.clock_steps.proofs.RowNumbers.{most-same}
use Rattle.clock_run.specs.Running.{values_fit, upper_of, put_values, hand_on, numbers_to, marks_to, answer_on, turn_on, settled_on}
use Rattle.clock_run.specs.declared.Rounds.{Rounds}
use Rattle.clock_run.specs.Rounds.{ended_at, last_on, row_at, row_fits, row_on, rounds_from, registers_of, repeat_from}
use Rattle.clock_run.specs.Traces.{word_of, put_words, row_word, put_both, TurnTraced, turn_traced, high_on, trace_turn, traced, taken_on, fed_on}
use Rattle.clock_run.specs.Traces.{trace_from}
use Rattle.clock_claims.specs.Traced.{cycle_word, low_book, low_row, high_row, repeat_trace}
use Rattle.clock_claims.specs.Claims.{Whole, Ready, RowInputs}
use Rattle.clock_claims.proofs.Lists.{set_to, to-length, to_at, to-above, to-twice, planes-same}
use Rattle.clock_claims.proofs.Answering.{numbers-are, marks-are}
use Rattle.clock_claims.proofs.Rows.{words_same, word_same}
use Rattle.clock_claims.proofs.Holding.{lent, upper_is, width_same}
use Rattle.clock_claims.proofs.Handing.{cell-value, input-small, base, handed-past, hand-are, hand-long, hand-clock}
use Rattle.clock_claims.proofs.Handing.{hand-register, fed, fed-are, fed-long, fed-input}
use Rattle.clock_claims.proofs.Handing.{fed-clock, fed-past, fed-value}
use Rattle.clock_claims.proofs.Fits.{handed-fits, first-waits, rise-fits}
use Rattle.clock_claims.proofs.Cycling.{Turned, turned, cell-is, value-small, given_is, next-waits}

-- ---- a value's number and marks make it again, and a small value's cell comes back from the value that it holds

value-again : (a : Value) (ns us : List ℕ) (v : ℕ) → get_or ns v 0 ≡ number_of a → get_or us v 0 ≡ marks_of a → value_at ns us v ≡ a
unfolding value_at number_of marks_of
value-again a ns us v n u = λ i. record { number = n i; unknown = u i }

again : (u : Bool) (a b : Value) → small a ≡ true → small b ≡ true → (cs : List ℕ) (v : ℕ) →
    get_or cs v 0 ≡ pick u (cell_of a) (cell_of b) → cell_of (cell_at cs v) ≡ get_or cs v 0
again true a b s l cs v e = ap cell_of (cell-value cs v a s e) ∙ sym e
again false a b s l cs v e = ap cell_of (cell-value cs v b l e) ∙ sym e

module _ (m : Module Expr) (z : Sound m) (ruled : Ruled m) (q : plan.Plan) (h : Holds m q) (ns us rs written : List ℕ)
    (y : Ready m ns us rs written) (count : ℕ) (k : Counted rs count) (ws ls ts ms : List ℕ) (room : Room ws ls ts ms)
    (g : Registers) (wg : Whole g) (vs xs : List ℕ) (inputs : ℕ → Inputs) (given-rows : RowInputs m vs xs inputs)
  where
    abbrev T : Tables
    T = tables_in ns rs

    abbrev P : ℕ → plan.Node
    P = plan.node_at (copy_all ns us count ws)

    abbrev tab : List ℕ
    tab = fill_rows ns (low_all ns count ls) rs q written ts

    abbrev numbers : List ℕ
    numbers = number_rows q ms

    abbrev I : ℕ
    I = m.scope.inputs

    abbrev R : ℕ
    R = m.scope.registers

    abbrev N : ℕ
    N = length m.threads

    -- What the cells and places hold after a cycle that gave c.
    record Held (c : Clocked) (s : Stand) : Type 0 where
      long : length s.cells ≡ 4176
      clock : get_or s.cells 0 0 ≡ 1
      mine : (j : ℕ) → j < R → get_or s.cells (I + j) 0 ≡ cell_of (value_at c.value c.unknown j)
      places : s.places ≡ c.places
      whole : Whole (registers_of c)
      right : registers_fit m (registers_of c) ≡ true
      numbers-kept : (f : ℕ → ℕ) → set_to f R c.value ≡ set_to f R g.value
      marks-kept : (f : ℕ → ℕ) → set_to f R c.unknown ≡ set_to f R g.unknown

    held_first : registers_fit m g ≡ true → Held (refused 0 g) (stand (hand_on q g (base m z q h g)) g.places)
    unfolding refused
    held_first e =
        rw (hand-are m z q h g)
        (record {
          long = hand-long m z q h g;
          clock = hand-clock m z q h g;
          mine = hand-register m z q h g;
          places = refl;
          whole = record { numbers = wg.numbers; marks = wg.marks; eight = wg.eight; words = wg.words };
          right = e;
          numbers-kept = λ f. refl;
          marks-kept = λ f. refl;
        })

    -- ---- a row more

    row_same : (r : ℕ) → r < length vs / 16 → values_fit q 1 vs xs (row_at r) (upper_of q) ≡ upper_inputs_fit m (inputs r)
    unfolding values_fit upper_inputs_fit
    row_same r o =
        ap (λ (n : ℕ). all_below n (λ v. fits (q.width (1 + v)) (value_at vs xs (row_at r + v)))) (upper_is m z q h)
        ∙ all_same (λ v. fits (q.width (1 + v)) (value_at vs xs (row_at r + v))) (λ v. fits (width_of m (v + 1)) (input_of (inputs r) v))
        (I - 1)
        (λ v u. width_same m z q h v u (value_at vs xs (row_at r + v)) ∙ ap (fits (width_of m (v + 1))) (sym (given-rows.item r v o u)))
        ∙ sym (ap (λ (t : Bool). t && all_below (I - 1) (λ v. fits (width_of m (v + 1)) (input_of (inputs r) v)))
        (eq-eqb ((inputs r).count + 1) I (given-rows.count r)))

    module _ (r : ℕ) (o : r < length vs / 16) (c : Clocked) (s : Stand) (x : Held c s) (fit : upper_inputs_fit m (inputs r) ≡ true) where
      abbrev a : Inputs
      a = inputs r

      abbrev old : Registers
      old = registers_of c

      abbrev cs : List ℕ
      cs = fed m z vs xs (row_at r) s.cells x.long

      abbrev next : Stand
      next = stand cs s.places

      low_value : (v : ℕ) → v < I + R → cell_at cs v ≡ (handed m old a).values v
      low_value =
          fed-value m z old x.whole a fit vs xs (row_at r) (λ v u. given-rows.item r v o u) s.cells x.long x.clock x.mine

      abbrev b : book.Book
      b = record { values = λ v. pick (ltb v (variables m)) (cell_at cs v) nowhere; places = λ i. get_or c.places i 0 }

      inside : I + R ≤ variables m
      unfolding variables
      inside = omega (arith, z.variables)

      next-stands : Stands m b next
      next-stands =
          record {
            long = fed-long m z vs xs (row_at r) s.cells x.long;
            value = λ v u. rw (lt-ltb v (variables m) u);
            eight = ap length x.places ∙ x.whole.eight;
            place = λ i u. ap (λ (l : List ℕ). get_or l i 0) x.places;
          }

      -- Inputs and registers are as handed; the wires don't matter.
      b-low : (v : ℕ) → v < I + R → b.values v ≡ (handed m old a).values v
      b-low v u =
          let w : v < variables m = omega (arith, inside) in
          rw (lt-ltb v (variables m) w) (low_value v u)

      b-past : (v : ℕ) → variables m ≤ v → b.values v ≡ nowhere
      b-past v u = rw (le-ltb v (variables m) u)

      settled_same : book.settle m b.values ≡ book.settle m (handed m old a).values
      unfolding variables wire_variable
      settled_same = λ i v. by v (dec_lt v (variables m)) i
        where
          off : (v : ℕ) → (v < variables m → ⊥) → (j : ℕ) → j < length m.wires → v ≢ wire_variable m j
          off v d j u e = d (omega (arith, z.variables))

          by : (v : ℕ) → Dec (v < variables m) → book.settle m b.values v ≡ book.settle m (handed m old a).values v
          by v (yes u) = settle-agree m z ruled b.values (handed m old a).values b-low v u
          by v (no d) =
              settle_other m b.values v (off v d)
              ∙ b-past v (omega arith)
              ∙ sym
              (settle_other m (handed m old a).values v (off v d)
              ∙ handed-past m old a v (λ e. omega (arith, z.inputs-some, z.variables)) (omega (arith, z.variables))
              (omega (arith, z.variables)))

      book-same : book.settled m b ≡ book.settled m (handed m old a)
      unfolding book.settled handed
      book-same = λ i. record { values = settled_same i; places = λ j. get_or c.places j 0 }

      waits : (i : ℕ) → i < N → is_wait (instr_at (code_of m i) (b.places i)) ≡ true
      waits = first-waits m z old a x.right fit

      abbrev t : Stand
      t = turn_on q P tab numbers next

      turn : Turned m z q h ns us rs written y count k ws ls ts ms room b next t
      turn = turned m z q h ns us rs written y count k ws ls ts ms room b next next-stands waits

      abbrev ds : List ℕ
      ds = settle q t.cells

      mine-too : (j : ℕ) → j < R → get_or cs (I + j) 0 ≡ cell_of (value_at c.value c.unknown j)
      mine-too j u = fed-past m z vs xs (row_at r) s.cells x.long (I + j) (omega arith) ∙ x.mine j u

      abbrev e : Clocked
      e = answer_on q old (stand ds t.places)

      answer-is : e ≡ clocked_in m T old a
      unfolding clocked_in clocked
      answer-is =
          rw (y.fit, x.right, fit)
          (given_is m z q h ns us rs written y count k ws ls ts ms room old x.whole b next t turn mine-too x.places
          ∙ ap (λ (u : book.Book). given m (book.settled m (book.rise m T u)) old) book-same)

      -- ---- the lists of the answer

      abbrev F : ℕ → ℕ
      F j = number_of (cell_at ds (I + j))

      abbrev G : ℕ → ℕ
      G j = marks_of (cell_at ds (I + j))

      list-is : (l : List ℕ) → numbers_to ds q.inputs (at_most 32 q.registers) l ≡ set_to F R l
      list-is l =
          ap (λ (i : ℕ). numbers_to ds i (at_most 32 q.registers) l) h.inputs
          ∙ ap (λ (n : ℕ). numbers_to ds I (at_most 32 n) l) h.registers
          ∙ ap (λ (n : ℕ). numbers_to ds I n l) (most-same 32 R z.registers-most)
          ∙ numbers-are ds I R l

      marks-is : (l : List ℕ) → marks_to ds q.inputs (at_most 32 q.registers) l ≡ set_to G R l
      marks-is l =
          ap (λ (i : ℕ). marks_to ds i (at_most 32 q.registers) l) h.inputs
          ∙ ap (λ (n : ℕ). marks_to ds I (at_most 32 n) l) h.registers
          ∙ ap (λ (n : ℕ). marks_to ds I n l) (most-same 32 R z.registers-most)
          ∙ marks-are ds I R l

      value-list : e.value ≡ set_to F R c.value
      unfolding answer_on
      value-list = list-is c.value

      marks-list : e.unknown ≡ set_to G R c.unknown
      unfolding answer_on
      marks-list = marks-is c.unknown

      value-at : (j : ℕ) → j < R → get_or e.value j 0 ≡ F j
      value-at j u =
          ap (λ (l : List ℕ). get_or l j 0) value-list
          ∙ to_at F 0 c.value R j u (omega (arith, x.whole.numbers, z.registers-most))

      marks-at : (j : ℕ) → j < R → get_or e.unknown j 0 ≡ G j
      marks-at j u =
          ap (λ (l : List ℕ). get_or l j 0) marks-list
          ∙ to_at G 0 c.unknown R j u (omega (arith, x.whole.marks, z.registers-most))

      value-held : (j : ℕ) → j < R → value_at e.value e.unknown j ≡ cell_at ds (I + j)
      value-held j u = value-again (cell_at ds (I + j)) e.value e.unknown j (value-at j u) (marks-at j u)

      cells-again : (j : ℕ) → j < R → get_or ds (I + j) 0 ≡ cell_of (value_at e.value e.unknown j)
      cells-again j u =
          sym
          (ap cell_of (value-held j u)
          ∙ again (some_thread m (λ i. writes m i (I + j))) ((book.rise m T (book.settled m b)).values (I + j))
          (value_at c.value c.unknown j)
          (value-small m z q h ns us rs written y count k ws ls ts ms room old x.whole b next t turn mine-too x.places j u)
          (x.whole.words j) ds (I + j)
          (cell-is m z q h ns us rs written y count k ws ls ts ms room old x.whole b next t turn mine-too x.places j u))

      mine-next : (j : ℕ) → j < R → get_or t.cells (I + j) 0 ≡ cell_of (value_at e.value e.unknown j)
      mine-next j u = sym (turn.high (I + j) (omega arith)) ∙ cells-again j u

      -- ---- the clock's cell

      no-clock : (i : ℕ) → i < N → writes m i 0 ≡ false
      no-clock i u = by (writes m i 0) refl
        where
          by : (w : Bool) → writes m i 0 ≡ w → w ≡ false
          by true d = absurd (omega (arith, ((lent m z q h y).only i 0 u d).0, z.inputs-some))
          by false d = refl

      none-writes : some_thread m (λ i. writes m i 0) ≡ false
      unfolding some_thread
      none-writes = below_none (λ i. writes m i 0) N no-clock

      clock-next : get_or t.cells 0 0 ≡ 1
      clock-next =
          turn.risen.cell 0 (omega arith)
          ∙ rw none-writes
          (turn.low 0 (omega (arith, z.inputs-some)) ∙ fed-clock m z vs xs (row_at r) s.cells x.long ∙ x.clock)

      -- ---- what it gives fits again

      words-next : (j : ℕ) → small (value_at e.value e.unknown j) ≡ true
      words-next j = by (dec_lt j R)
        where
          by : Dec (j < R) → small (value_at e.value e.unknown j) ≡ true
          by (yes u) = rw (value-held j u) (at_small ds (I + j))
          by (no d) =
              let o : R ≤ j = omega arith in
              let n = ap (λ (l : List ℕ). get_or l j 0) value-list ∙ to-above F 0 c.value R j o in
              let u = ap (λ (l : List ℕ). get_or l j 0) marks-list ∙ to-above G 0 c.unknown R j o in
              rw (planes-same e.value e.unknown c.value c.unknown j j n u) (x.whole.words j)

      places-next : e.places ≡ t.places
      unfolding answer_on
      places-next = refl

      whole-next : Whole (registers_of e)
      whole-next =
          record {
            numbers = ap length value-list ∙ to-length F 0 c.value R ∙ x.whole.numbers;
            marks = ap length marks-list ∙ to-length G 0 c.unknown R ∙ x.whole.marks;
            eight = ap length places-next ∙ turn.risen.stands.eight;
            words = words-next;
          }

      fitting : Fitting m.scope (book.settled m b).values
      unfolding book.settled
      fitting = rw settled_same (settle-fits m z ruled (handed m old a).values (handed-fits m z old a x.right fit))

      waits-settled : (i : ℕ) → i < N → is_wait (instr_at (code_of m i) ((book.settled m b).places i)) ≡ true
      unfolding book.settled
      waits-settled = waits

      value-next : (j : ℕ) → j < R → value_at e.value e.unknown j ≡ (book.rise m T (book.settled m b)).values (I + j)
      value-next j u =
          sym (cell-value t.cells (I + j) (value_at e.value e.unknown j) (words-next j) (mine-next j u))
          ∙ turn.risen.stands.value (I + j) (omega (arith, inside))

      register-next : (j : ℕ) → j < R → fits (width_of m (I + j)) (value_at e.value e.unknown j) ≡ true
      unfolding width_of
      register-next j u =
          rw (value-next j u)
          (rise-fits m ns us rs written (lent m z q h y) (book.settled m b) fitting waits-settled (I + j) (omega (arith, z.variables)))

      place-next : (i : ℕ) → i < N → is_wait (instr_at (code_of m i) (get_or e.places i 0)) ≡ true
      unfolding book.rise
      place-next i u =
          rw (ap (λ (l : List ℕ). get_or l i 0) places-next ∙ turn.risen.stands.place i u)
          (next-waits m z q h ns us rs written y count k ws ls ts ms room (book.settled m b) waits-settled i u)

      right-next : registers_fit m (registers_of e) ≡ true
      unfolding registers_fit
      right-next =
          rw (
            below_all (λ j. fits (width_of m (I + j)) (value_at e.value e.unknown j)) R register-next,
            below_all (λ i. is_wait (instr_at (code_of m i) (get_or e.places i 0))) N place-next,
          )

      -- ---- what it gives is what the last of r + 1 cycles gave

      numbers-both : numbers_to ds q.inputs (at_most 32 q.registers) g.value
          ≡ numbers_to ds q.inputs (at_most 32 q.registers) c.value
      numbers-both = list-is g.value ∙ sym (x.numbers-kept F) ∙ sym (list-is c.value)

      marks-both : marks_to ds q.inputs (at_most 32 q.registers) g.unknown
          ≡ marks_to ds q.inputs (at_most 32 q.registers) c.unknown
      marks-both = marks-is g.unknown ∙ sym (x.marks-kept G) ∙ sym (marks-is c.unknown)

      last-next : last_on q g (r + 1) t ≡ e
      unfolding last_on answer_on
      last-next = rw (ne_eqb (r + 1) 0 (λ d. omega arith), numbers-both, marks-both)

      held-answer : Held e t
      held-answer =
          record {
            long = turn.risen.stands.long;
            clock = clock-next;
            mine = mine-next;
            places = sym places-next;
            whole = whole-next;
            right = right-next;
            numbers-kept =
                λ f. ap (set_to f R) value-list
                ∙ to-twice f 0 F R c.value (omega (arith, x.whole.numbers, z.registers-most))
                ∙ x.numbers-kept f;
            marks-kept =
                λ f. ap (set_to f R) marks-list
                ∙ to-twice f 0 G R c.unknown (omega (arith, x.whole.marks, z.registers-most))
                ∙ x.marks-kept f;
          }

      held_next : Held (clocked_in m T old a) t
      held_next = rw answer-is at held-answer

      last-answer : last_on q g (r + 1) t ≡ clocked_in m T old a
      last-answer = last-next ∙ answer-is

      -- The same with the wires settled.
      held-settled : Held (clocked_in m T old a) (stand ds t.places)
      held-settled =
          let x = held_next in
          record {
            long = turn.end.long;
            clock = turn.high 0 (omega (arith, z.inputs-some)) ∙ x.clock;
            mine = λ j u. turn.high (I + j) (omega arith) ∙ x.mine j u;
            places = x.places;
            whole = x.whole;
            right = x.right;
            numbers-kept = x.numbers-kept;
            marks-kept = x.marks-kept;
          }

      answer-both : answer_on q g (stand ds t.places) ≡ clocked_in m T old a
      unfolding answer_on
      answer-both = both ∙ answer-is
        where
          both : answer_on q g (stand ds t.places) ≡ e
          both = rw (numbers-both, marks-both)

      number-next : (clocked_in m T old a).number ≡ 0
      unfolding answer_on
      number-next = sym (ap (λ (d : Clocked). d.number) answer-is)

      row_is : row_on q P tab numbers g vs xs r s ≡ t
      unfolding row_on
      row_is = ap (λ (l : List ℕ). turn_on q P tab numbers (stand l s.places)) (fed-are m z vs xs (row_at r) s.cells x.long q h)

      -- ---- the words of its two rows

      abbrev settled-low : List ℕ
      settled-low = settle q cs

      abbrev d : Clocked
      d = clocked_in m T old a

      fed-cell : (v : ℕ) → v < I - 1 → get_or cs (1 + v) 0 ≡ cell_of (input_of a v)
      fed-cell v u = fed-input m z vs xs (row_at r) s.cells x.long v u ∙ ap cell_of (sym (given-rows.item r v o u))

      low-cell : (v : ℕ) → v < I - 1 → get_or settled-low (1 + v) 0 ≡ cell_of (input_of a v)
      low-cell v u = turn.low (1 + v) (omega arith) ∙ fed-cell v u

      low-input : (v : ℕ) → v < I - 1 → cell_of (cell_at settled-low (1 + v)) ≡ cell_of (input_of a v)
      low-input v u = ap cell_of (cell-value settled-low (1 + v) (input_of a v) (input-small m z a fit v u) (low-cell v u))

      low-register : (j : ℕ) → j < R → cell_of (cell_at settled-low (I + j)) ≡ cell_of (value_at c.value c.unknown j)
      low-register j u =
          ap cell_of
          (cell-value settled-low (I + j) (value_at c.value c.unknown j) (x.whole.words j)
          (turn.low (I + j) (omega arith) ∙ mine-too j u))

      low-clock : (v : ℕ) → v ≢ 0 → v < I + R → (handed m old a).values v ≡ book.put (handed m old a).values 0 (known 0) v
      unfolding book.put
      low-clock v e u = rw (ne_eqb v 0 e)

      low-wire : (w : ℕ) → w < length m.wires → cell_of (cell_at settled-low (I + R + w)) ≡ cell_of ((low_book m old a).values (wire_variable m w))
      unfolding low_book book.settled wire_variable variables
      low-wire w u =
          let v = I + R + w in
          ap cell_of
          (turn.mid.value v (omega (arith, z.variables))
          ∙ ap (λ (f : ℕ → Value). f v) settled_same
          ∙ clock-apart m z ruled (handed m old a).values (book.put (handed m old a).values 0 (known 0)) low-clock v
          (λ e. omega (arith, z.inputs-some)) (omega (arith, z.variables)))

      unwritten : (v : ℕ) → v < I → some_thread m (λ i. writes m i v) ≡ false
      unfolding some_thread
      unwritten v l = below_none (λ i. writes m i v) N (λ i u. by i u (writes m i v) refl)
        where
          by : (i : ℕ) → i < N → (w : Bool) → writes m i v ≡ w → w ≡ false
          by i u true e = absurd (omega (arith, ((lent m z q h y).only i v u e).0))
          by i u false e = refl

      high-input : (v : ℕ) → v < I - 1 → cell_of (cell_at ds (1 + v)) ≡ cell_of (input_of a v)
      high-input v u =
          ap cell_of
          (cell-value ds (1 + v) (input_of a v) (input-small m z a fit v u)
          (turn.high (1 + v) (omega arith)
          ∙ turn.risen.cell (1 + v) (omega (arith, z.inputs-most))
          ∙ rw (unwritten (1 + v) (omega arith)) (low-cell v u)))

      high-register : (j : ℕ) → j < R → cell_of (cell_at ds (I + j)) ≡ cell_of (value_at d.value d.unknown j)
      high-register j u =
          ap cell_of
          (cell-value ds (I + j) (value_at d.value d.unknown j) (held-settled.whole.words j) (held-settled.mine j u))

      wire-list : e.wire ≡ set_to (λ w. number_of (cell_at ds (I + R + w))) (length m.wires) (replicate 32 0)
      unfolding answer_on
      wire-list =
          ap (λ (i : ℕ). numbers_to ds (i + q.registers) (at_most 32 q.wires) (replicate 32 0)) h.inputs
          ∙ ap (λ (n : ℕ). numbers_to ds (I + n) (at_most 32 q.wires) (replicate 32 0)) h.registers
          ∙ ap (λ (n : ℕ). numbers_to ds (I + R) (at_most 32 n) (replicate 32 0)) h.wires
          ∙ ap (λ (n : ℕ). numbers_to ds (I + R) n (replicate 32 0)) (most-same 32 (length m.wires) z.wires-most)
          ∙ numbers-are ds (I + R) (length m.wires) (replicate 32 0)

      abbrev none : List ℕ
      none = replicate 32 (ones 32)

      unsure-list : e.unsure ≡ set_to (λ w. marks_of (cell_at ds (I + R + w))) (length m.wires) none
      unfolding answer_on
      unsure-list =
          ap (λ (i : ℕ). marks_to ds (i + q.registers) (at_most 32 q.wires) none) h.inputs
          ∙ ap (λ (n : ℕ). marks_to ds (I + n) (at_most 32 q.wires) none) h.registers
          ∙ ap (λ (n : ℕ). marks_to ds (I + R) (at_most 32 n) none) h.wires
          ∙ ap (λ (n : ℕ). marks_to ds (I + R) n none) (most-same 32 (length m.wires) z.wires-most)
          ∙ marks-are ds (I + R) (length m.wires) none

      high-wire : (w : ℕ) → w < length m.wires → cell_of (cell_at ds (I + R + w)) ≡ cell_of (value_at d.wire d.unsure w)
      high-wire w u =
          let n : get_or d.wire w 0 ≡ number_of (cell_at ds (I + R + w)) =
          ap (λ (k : Clocked). get_or k.wire w 0) (sym answer-is)
          ∙ ap (λ (l : List ℕ). get_or l w 0) wire-list
          ∙ to_at (λ w. number_of (cell_at ds (I + R + w))) 0 (replicate 32 0) (length m.wires) w u
          (omega (arith, z.wires-most, length-replicate {A = ℕ} 32 0)) in
          let f : get_or d.unsure w 0 ≡ marks_of (cell_at ds (I + R + w)) =
          ap (λ (k : Clocked). get_or k.unsure w 0) (sym answer-is)
          ∙ ap (λ (l : List ℕ). get_or l w 0) unsure-list
          ∙ to_at (λ w. marks_of (cell_at ds (I + R + w))) 0 none (length m.wires) w u
          (omega (arith, z.wires-most, length-replicate {A = ℕ} 32 (ones 32))) in
          ap cell_of (sym (value-again (cell_at ds (I + R + w)) d.wire d.unsure w n f))

      counts-are : (clock : ℕ) (b : Stand) (k : ℕ) →
          row_word q clock b k ≡ word_of (I + R + length m.wires) clock b.cells b.places k
      unfolding row_word
      counts-are clock b k = rw (h.inputs, h.registers, h.wires)

      low_word : (k : ℕ) → row_word q 0 (stand settled-low s.places) k ≡ low_row m old a k
      unfolding low_row
      low_word k =
          counts-are 0 (stand settled-low s.places) k
          ∙ word_same m 0 a (λ j. cell_of (value_at c.value c.unknown j))
          (λ w. cell_of ((low_book m old a).values (wire_variable m w))) settled-low s.places low-input low-register low-wire k
          ∙ ap
          (λ (ps : List ℕ). cycle_word m 0 a (λ j. cell_of (value_at c.value c.unknown j))
          (λ w. cell_of ((low_book m old a).values (wire_variable m w))) ps k)
          x.places

      high_word : (k : ℕ) → row_word q 1 (stand ds t.places) k ≡ high_row m d a k
      unfolding high_row
      high_word k =
          counts-are 1 (stand ds t.places) k
          ∙ word_same m 1 a (λ j. cell_of (value_at d.value d.unknown j)) (λ w. cell_of (value_at d.wire d.unsure w)) ds
          t.places high-input high-register high-wire k
          ∙ ap
          (λ (ps : List ℕ). cycle_word m 1 a (λ j. cell_of (value_at d.value d.unknown j))
          (λ w. cell_of (value_at d.wire d.unsure w)) ps k)
          held_next.places

      fed-row : fed_on q P tab numbers g vs xs r s ≡ next
      fed-row = ap (λ (l : List ℕ). stand l s.places) (fed-are m z vs xs (row_at r) s.cells x.long q h)

      traced-row : (ws : List ℕ) →
          trace_turn q P tab numbers (176 * r) (fed_on q P tab numbers g vs xs r s) ws
          ≡ turn_traced (stand ds t.places) (put_both (low_row m old a) (high_row m d a) (176 * r) ws)
      unfolding trace_turn high_on settled_on turn_on put_both
      traced-row ws =
          ap (λ (b : Stand). trace_turn q P tab numbers (176 * r) b ws) fed-row
          ∙ ap (turn_traced (stand ds t.places))
          (words_same (row_word q 1 (stand ds t.places)) (high_row m d a) (176 * r + 88) 88 high_word
          (put_words (row_word q 0 (stand settled-low s.places)) (176 * r) 88 ws)
          ∙ ap (put_words (high_row m d a) (176 * r + 88) 88)
          (words_same (row_word q 0 (stand settled-low s.places)) (low_row m old a) (176 * r) 88 low_word ws))

      taken_next : taken_on q g (r + 1) (stand ds t.places) ≡ d
      unfolding taken_on
      taken_next = rw (ne_eqb (r + 1) 0 (λ e. omega arith)) answer-both

    -- ---- the rows

    off-is : (o : Registers) (a : Inputs) → registers_fit m o ≡ true → upper_inputs_fit m a ≡ false → clocked_in m T o a ≡ refused 25 o
    unfolding clocked_in
    off-is o a e f = rw (y.fit, e, f)

    rounds-same : (n r : ℕ) (c : Clocked) (s : Stand) → r + n ≡ length vs / 16 → Held c s →
        last_on q g r s ≡ c → rounds_from q P tab numbers g vs xs n r s ≡ repeat_from (clocked_in m T) inputs n r c
    unfolding rounds_from repeat_from row_fits refused
    rounds-same zero r c s l x p = ap (ended_at r 0) p
    rounds-same (suc n) r c s l x p =
        by (upper_inputs_fit m (inputs r)) refl
        (λ d f y p. rounds-same n (r + 1) d f (omega arith) y p)
      where
        o : r < length vs / 16
        o = omega arith

        on : upper_inputs_fit m (inputs r) ≡ true →
            ((d : Clocked) (f : Stand) → Held d f → last_on q g (r + 1) f ≡ d →
            rounds_from q P tab numbers g vs xs n (r + 1) f ≡ repeat_from (clocked_in m T) inputs n (r + 1) d) →
            pick (values_fit q 1 vs xs (row_at r) (upper_of q))
            (rounds_from q P tab numbers g vs xs n (r + 1) (row_on q P tab numbers g vs xs r s))
            (ended_at r 25 (last_on q g r s))
            ≡ pick (eqb (clocked_in m T (registers_of c) (inputs r)).number 0)
            (repeat_from (clocked_in m T) inputs n (r + 1) (clocked_in m T (registers_of c) (inputs r)))
            (ended_at r (clocked_in m T (registers_of c) (inputs r)).number c)
        on w ih =
            let d = clocked_in m T (registers_of c) (inputs r) in
            rw (row_same r o ∙ w, row_is r o c s x w)
            (ih d _ (held_next r o c s x w) (last-answer r o c s x w)
            ∙ sym
            (ap (λ (k : ℕ). pick (eqb k 0) (repeat_from (clocked_in m T) inputs n (r + 1) d) (ended_at r k c)) (number-next r o c s x w)))

        off : upper_inputs_fit m (inputs r) ≡ false →
            pick (values_fit q 1 vs xs (row_at r) (upper_of q))
            (rounds_from q P tab numbers g vs xs n (r + 1) (row_on q P tab numbers g vs xs r s))
            (ended_at r 25 (last_on q g r s))
            ≡ pick (eqb (clocked_in m T (registers_of c) (inputs r)).number 0)
            (repeat_from (clocked_in m T) inputs n (r + 1) (clocked_in m T (registers_of c) (inputs r)))
            (ended_at r (clocked_in m T (registers_of c) (inputs r)).number c)
        off w = rw (row_same r o ∙ w, off-is (registers_of c) (inputs r) x.right w) (ap (ended_at r 25) p)

        by : (u : Bool) → upper_inputs_fit m (inputs r) ≡ u →
            ((d : Clocked) (f : Stand) → Held d f → last_on q g (r + 1) f ≡ d →
            rounds_from q P tab numbers g vs xs n (r + 1) f ≡ repeat_from (clocked_in m T) inputs n (r + 1) d) →
            pick (values_fit q 1 vs xs (row_at r) (upper_of q))
            (rounds_from q P tab numbers g vs xs n (r + 1) (row_on q P tab numbers g vs xs r s))
            (ended_at r 25 (last_on q g r s))
            ≡ pick (eqb (clocked_in m T (registers_of c) (inputs r)).number 0)
            (repeat_from (clocked_in m T) inputs n (r + 1) (clocked_in m T (registers_of c) (inputs r)))
            (ended_at r (clocked_in m T (registers_of c) (inputs r)).number c)
        by true w ih = on w ih
        by false w ih = off w

    first-last : last_on q g 0 (stand (hand_on q g (base m z q h g)) g.places) ≡ refused 0 g
    unfolding last_on
    first-last = refl

    pub rounds-are : registers_fit m g ≡ true →
        rounds_from q P tab numbers g vs xs (length vs / 16) 0 (stand (hand_on q g (base m z q h g)) g.places)
        ≡ repeat_from (clocked_in m T) inputs (length vs / 16) 0 (refused 0 g)
    rounds-are e = rounds-same (length vs / 16) 0 (refused 0 g) (stand (hand_on q g (base m z q h g)) g.places) (omega arith)
        (held_first e)
        first-last

    -- ---- with the rows of each

    trace-same : (n r : ℕ) (c : Clocked) (s : Stand) (us : List ℕ) → r + n ≡ length vs / 16 → Held c s → taken_on q g r s ≡ c →
        trace_from q P tab numbers g vs xs n r s us ≡ repeat_trace m (clocked_in m T) inputs n r c us
    unfolding trace_from repeat_trace row_fits refused
    trace-same zero r c s us l x p = ap (λ (k : Clocked). traced (ended_at r 0 k) us) p
    trace-same (suc n) r c s us l x p =
        by (upper_inputs_fit m (inputs r)) refl (λ e f vs y p. trace-same n (r + 1) e f vs (omega arith) y p)
      where
        o : r < length vs / 16
        o = omega arith

        turned-row : TurnTraced
        turned-row = trace_turn q P tab numbers (176 * r) (fed_on q P tab numbers g vs xs r s) us

        e : Clocked
        e = clocked_in m T (registers_of c) (inputs r)

        after : List ℕ
        after = put_both (low_row m (registers_of c) (inputs r)) (high_row m e (inputs r)) (176 * r) us

        Same : Type 0
        Same =
            pick (values_fit q 1 vs xs (row_at r) (upper_of q))
            (trace_from q P tab numbers g vs xs n (r + 1) turned-row.stood turned-row.words)
            (traced (ended_at r 25 (taken_on q g r s)) us)
            ≡ pick (eqb e.number 0) (repeat_trace m (clocked_in m T) inputs n (r + 1) e after) (traced (ended_at r e.number c) us)

        Next : Type 0
        Next = (k : Clocked) (f : Stand) (vs' : List ℕ) → Held k f → taken_on q g (r + 1) f ≡ k →
            trace_from q P tab numbers g vs xs n (r + 1) f vs' ≡ repeat_trace m (clocked_in m T) inputs n (r + 1) k vs'

        on : upper_inputs_fit m (inputs r) ≡ true → Next → Same
        on w ih =
            let f = stand (ds r o c s x w) (t r o c s x w).places in
            rw (row_same r o ∙ w)
            (ap
            (λ (u : TurnTraced). trace_from q P tab numbers g vs xs n (r + 1) u.stood u.words)
            (traced-row r o c s x w us)
            ∙ ih e f after (held-settled r o c s x w) (taken_next r o c s x w)
            ∙ sym
            (ap
            (λ (k : ℕ). pick (eqb k 0) (repeat_trace m (clocked_in m T) inputs n (r + 1) e after) (traced (ended_at r k c) us))
            (number-next r o c s x w)))

        off : upper_inputs_fit m (inputs r) ≡ false → Same
        off w =
            rw (row_same r o ∙ w, off-is (registers_of c) (inputs r) x.right w)
            (ap (λ (k : Clocked). traced (ended_at r 25 k) us) p)

        by : (u : Bool) → upper_inputs_fit m (inputs r) ≡ u → Next → Same
        by true w ih = on w ih
        by false w ih = off w

    first_taken : taken_on q g 0 (stand (hand_on q g (base m z q h g)) g.places) ≡ refused 0 g
    unfolding taken_on
    first_taken = refl

    pub trace-are : registers_fit m g ≡ true → (us : List ℕ) →
        trace_from q P tab numbers g vs xs (length vs / 16) 0 (stand (hand_on q g (base m z q h g)) g.places) us
        ≡ repeat_trace m (clocked_in m T) inputs (length vs / 16) 0 (refused 0 g) us
    trace-are e us =
        trace-same (length vs / 16) 0 (refused 0 g) (stand (hand_on q g (base m z q h g)) g.places) us (omega arith) (held_first e)
        first_taken
