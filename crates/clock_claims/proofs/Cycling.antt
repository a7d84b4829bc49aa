-- A cycle on tables that are filled is the cycle run. Assumes nothing.
use mathlib.Core.Path.{◌≡◌, refl, sym, ap, ◌∙◌}
use mathlib.Core.Bool.{Bool, true, false}
use mathlib.Core.List.{List, []}
use Prim.Native.Nat.{ℕ, ◌+◌, ◌≤◌, ◌<◌}
use native.Mathlib.Omega.{arith}
use borrow.Author.Tests.{lt-ltb}
use lib.ListN.{length, get_or, replicate}
use Rattle.values.specs.declared.Value.{Value}
use Rattle.values.specs.Values.{pick, known, ones, fits}
use Rattle.values.specs.Planes.{value_at, number_of, marks_of}
use Rattle.sheet.specs.Expression.{Expr}
use Rattle.sheet.specs.Module.{Module}
use Rattle.soundness.specs.Soundness.{Sound}
use Rattle.events.specs.declared.Inputs.{Inputs}
use Rattle.events.specs.Cycle.{variables, code_of, instr_at, is_wait, wire_variable, all_below}
use Rattle.events.specs.Calls.{width_of}
use Rattle.events.proofs.Cycle.{and_right, all-below}
use Rattle.values.specs.Cells.{small, cell_of, cell_at}
use Rattle.values.proofs.Cells.{at_small}
use Rattle.plan.specs.Plan as plan
use Rattle.plan_fill.specs.Holding.{Holds}
use Rattle.nextstate.specs.declared.Registers.{Registers}
use Rattle.nextstate.specs.declared.Clocked.{Clocked}
use Rattle.nextstate.specs.Rules.{writes, some_thread}
use Rattle.nextstate.specs.Extraction.{Tables}
use Rattle.nextstate.specs.Book as book
use Rattle.nextstate.specs.CycleRun.{tables_in, registers_fit, upper_inputs_fit, handed, clocked, given}
use Rattle.settling.proofs.Settle.{settle-below}
use Rattle.clock_claims.proofs.Worth.{place-worth}
use Rattle.clock_nodes.specs.Copying.{copy_all, low_all}
use Rattle.clock_steps.specs.Settling.{settle}
use Rattle.clock_steps.specs.Taking.{Stand, stand, at_most, rise}
use Rattle.clock_steps.specs.Numbers.{number_rows, fill_rows}
use Rattle.clock_nodes.specs.Reach.{Counted}
use Rattle.clock_steps.specs.Claims.{Room, Stands, Waiting, Risen, RiseIsTheBooks}
use Rattle.clock_steps.proofs.Settling.{Settled, settled, settled-kept}
use Rattle.clock_steps.proofs.RowNumbers.{most-same, wait-inside}
use Rattle.clock_steps.proofs.Entries.{place-lands}
use Rattle.clock_steps.proofs.Claims.{rise-is-the-books}
use Rattle.clock_run.specs.Running.{upper_of, blank, put_values, hand_on, numbers_to, marks_to, answer_on, turn_on}
use Rattle.clock_run.specs.Running.{settled_on, clocked_on}
use Rattle.clock_claims.specs.Claims.{Whole, Ready}
use Rattle.clock_claims.proofs.Holding.{wired, coded, lent}
use Rattle.clock_claims.proofs.Handing.{cell-value, cells_are, cells-long, register-cell, cells-value}
use Rattle.clock_claims.proofs.Answering.{value-stored, unknown-stored, places-stored, wires-given, unsure-given}

module _ (m : Module Expr) (z : Sound m) (q : plan.Plan) (h : Holds m q) (ns us rs written : List ℕ) (y : Ready m ns us rs written)
    (count : ℕ) (k : Counted rs count) (ws ls ts ms : List ℕ) (room : Room ws ls ts ms)
  where
    abbrev T : Tables
    T = tables_in ns rs

    abbrev P : ℕ → plan.Node
    P = plan.node_at (copy_all ns us count ws)

    abbrev rows : List ℕ
    rows = fill_rows ns (low_all ns count ls) rs q written ts

    abbrev numbers : List ℕ
    numbers = number_rows q ms

    abbrev I : ℕ
    I = m.scope.inputs

    abbrev R : ℕ
    R = m.scope.registers

    abbrev N : ℕ
    N = length m.threads

    -- ---- a thread that waits comes to a place that is a byte

    module _ (b : book.Book) (waits : (i : ℕ) → i < N → is_wait (instr_at (code_of m i) (b.places i)) ≡ true) where
      lands : (i : ℕ) → i < N →
          (p : ℕ) × (book.worth m T b.values (book.entry m T i (b.places i) 32) ≡ known p) × (is_wait (instr_at (code_of m i) p) ≡ true)
      lands i o =
          place-worth m ns b.values i rs (book.entry m T i (b.places i) 32) (place-lands m ns us rs written (lent m z q h y) i (b.places i) o (waits i o))

      next-is : (i : ℕ) (o : i < N) → book.next_place m T b i ≡ (lands i o).0
      unfolding book.next_place number_of known
      next-is i o = rw (lt-ltb i N o, (lands i o).1)

      pub waiting : Waiting m T b
      unfolding code_of
      waiting =
          record {
            wait = waits;
            byte = λ i o. omega (arith, next-is i o, wait-inside (code_of m i) (lands i o).0 (lands i o).2, (z.code i o).most);
          }

      pub next-waits : (i : ℕ) → i < N → is_wait (instr_at (code_of m i) (book.next_place m T b i)) ≡ true
      next-waits i o = rw (next-is i o) (lands i o).2

    -- ---- settled, risen, settled

    pub record Turned (b : book.Book) (s t : Stand) : Type 0 where
      pub risen : Risen m T (book.settled m b) (stand (settle q s.cells) s.places) t
      pub mid : Settled m q (wired m z q h) (book.settle m b.values) (settle q s.cells)
      pub low : (v : ℕ) → v < I + R → get_or (settle q s.cells) v 0 ≡ get_or s.cells v 0
      pub end : Settled m q (wired m z q h) (book.settle m (book.rise m T (book.settled m b)).values) (settle q t.cells)
      pub high : (v : ℕ) → v < I + R → get_or (settle q t.cells) v 0 ≡ get_or t.cells v 0

    module _ (b : book.Book) (s : Stand) (st : Stands m b s)
        (waits : (i : ℕ) → i < N → is_wait (instr_at (code_of m i) (b.places i)) ≡ true) where
      start : Settled m q (wired m z q h) b.values s.cells
      start = record { long = st.long; value = st.value }

      abbrev cs : List ℕ
      cs = settle q s.cells

      before : Settled m q (wired m z q h) (book.settle m b.values) cs
      before = settled m q (wired m z q h) b.values s.cells start

      stands : Stands m (book.settled m b) (stand cs s.places)
      unfolding book.settled
      stands = record { long = before.long; value = before.value; eight = st.eight; place = st.place }

      waits-too : (i : ℕ) → i < N → is_wait (instr_at (code_of m i) ((book.settled m b).places i)) ≡ true
      unfolding book.settled
      waits-too = waits

      up : Risen m T (book.settled m b) (stand cs s.places) (rise q P rows numbers (stand cs s.places))
      unfolding RiseIsTheBooks
      up =
          rise-is-the-books m q (wired m z q h) (coded m z q h) ns us rs written (lent m z q h y) count k ws ls ts ms room
          (book.settled m b)
          (stand cs s.places) stands (waiting (book.settled m b) waits-too)

      abbrev t : Stand
      t = rise q P rows numbers (stand cs s.places)

      after : Settled m q (wired m z q h) (book.rise m T (book.settled m b)).values t.cells
      after = record { long = up.stands.long; value = up.stands.value }

      pub turned : Turned b s (turn_on q P rows numbers s)
      unfolding turn_on
      turned =
          record {
            risen = up;
            mid = before;
            low = λ v o. settled-kept m q (wired m z q h) b.values s.cells start v o;
            end = settled m q (wired m z q h) (book.rise m T (book.settled m b)).values t.cells after;
            high = λ v o. settled-kept m q (wired m z q h) (book.rise m T (book.settled m b)).values t.cells after v o;
          }

    -- ---- what a turn gives, where the registers' cells were those of g

    module _ (g : Registers) (w : Whole g) (b : book.Book) (s t : Stand) (x : Turned b s t)
        (mine : (r : ℕ) → r < R → get_or s.cells (I + r) 0 ≡ cell_of (value_at g.value g.unknown r))
        (here : s.places ≡ g.places) where
      abbrev c : book.Book
      c = book.rise m T (book.settled m b)

      abbrev d : book.Book
      d = book.settled m c

      abbrev written? : ℕ → Bool
      written? r = some_thread m (λ i. writes m i (I + r))

      abbrev ds : List ℕ
      ds = settle q t.cells

      few : I + R ≤ 80
      few = omega (arith, z.inputs-most, z.registers-most)

      inside : (r : ℕ) → r < R → I + r < variables m
      unfolding variables
      inside r o = omega (arith, z.variables)

      pub cell-is : (r : ℕ) → r < R →
          get_or ds (I + r) 0 ≡ pick (written? r) (cell_of (c.values (I + r))) (cell_of (value_at g.value g.unknown r))
      cell-is r o =
          x.high (I + r) (omega arith)
          ∙ x.risen.cell (I + r) (omega (arith, few))
          ∙ ap (pick (written? r) (cell_of (c.values (I + r)))) (x.low (I + r) (omega arith) ∙ mine r o)

      value-is : (r : ℕ) → r < R → d.values (I + r) ≡ c.values (I + r)
      unfolding book.settled
      value-is r o = settle-below m c.values (I + r) (omega arith)

      pub value-small : (r : ℕ) → r < R → small (c.values (I + r)) ≡ true
      value-small r o = rw (x.risen.stands.value (I + r) (inside r o)) at (at_small t.cells (I + r))

      held-is : (r : ℕ) → r < R → cell_at ds (I + r) ≡ pick (written? r) (d.values (I + r)) (value_at g.value g.unknown r)
      held-is r o = by (written? r) (cell-is r o)
        where
          by : (u : Bool) → get_or ds (I + r) 0 ≡ pick u (cell_of (c.values (I + r))) (cell_of (value_at g.value g.unknown r)) →
              cell_at ds (I + r) ≡ pick u (d.values (I + r)) (value_at g.value g.unknown r)
          by true e = cell-value ds (I + r) (c.values (I + r)) (value-small r o) e ∙ sym (value-is r o)
          by false e = cell-value ds (I + r) (value_at g.value g.unknown r) (w.words r) e

      number_is : (r : ℕ) → r < R → number_of (cell_at ds (I + r)) ≡ pick (written? r) (number_of (d.values (I + r))) (get_or g.value r 0)
      unfolding number_of value_at
      number_is r o = ap number_of (held-is r o) ∙ by (written? r)
        where
          by : (u : Bool) →
              number_of (pick u (d.values (I + r)) (value_at g.value g.unknown r))
              ≡ pick u (number_of (d.values (I + r))) (get_or g.value r 0)
          by true = refl
          by false = refl

      marks-is : (r : ℕ) → r < R → marks_of (cell_at ds (I + r)) ≡ pick (written? r) (marks_of (d.values (I + r))) (get_or g.unknown r 0)
      unfolding marks_of value_at
      marks-is r o = ap marks_of (held-is r o) ∙ by (written? r)
        where
          by : (u : Bool) →
              marks_of (pick u (d.values (I + r)) (value_at g.value g.unknown r))
              ≡ pick u (marks_of (d.values (I + r))) (get_or g.unknown r 0)
          by true = refl
          by false = refl

      place_is : (i : ℕ) → i < N → get_or t.places i 0 ≡ d.places i
      unfolding book.settled
      place_is i o = x.risen.stands.place i o

      wire-is : (j : ℕ) → j < length m.wires → cell_at ds (I + R + j) ≡ d.values (wire_variable m j)
      unfolding book.settled wire_variable variables
      wire-is j o = x.end.value (I + R + j) (omega (arith, z.variables))

      abbrev put : ℕ → ℕ → ℕ → Clocked
      put i r n =
          record {
            number = 0;
            value = numbers_to ds i (at_most 32 r) g.value;
            unknown = marks_to ds i (at_most 32 r) g.unknown;
            places = t.places;
            wire = numbers_to ds (i + r) (at_most 32 n) (replicate 32 0);
            unsure = marks_to ds (i + r) (at_most 32 n) (replicate 32 (ones 32));
          }

      put_is : {i j r p n l : ℕ} → i ≡ j → r ≡ p → n ≡ l → put i r n ≡ put j p l
      put_is e f o = rw (e, f, o)

      pub given_is : answer_on q g (stand ds t.places) ≡ given m d g
      unfolding answer_on given
      given_is =
          put_is h.inputs h.registers h.wires
          ∙ rw (
            most-same 32 R z.registers-most,
            most-same 32 (length m.wires) z.wires-most,
            value-stored m d g ds number_is,
            unknown-stored m d g ds marks-is,
            wires-given m d g ds z.wires-most wire-is,
            unsure-given m d g ds z.wires-most wire-is,
            places-stored m d g ds t.places (x.risen.stands.eight ∙ sym w.eight) (omega (arith, w.eight, z.threads-most))
                place_is
                (λ i o. x.risen.past i o ∙ ap (λ (l : List ℕ). get_or l i 0) here),
          )

    -- ---- one cycle

    module _ (g : Registers) (w : Whole g) (a : Inputs) (right : registers_fit m g ≡ true) (fit : upper_inputs_fit m a ≡ true) where
      abbrev first : Stand
      first = stand (put_values a.value a.unknown 1 0 (upper_of q) (hand_on q g (replicate 4176 blank))) g.places

      first-stands : Stands m (handed m g a) first
      unfolding handed
      first-stands =
          rw (cells_are m z q h g w a fit)
          (record {
            long = cells-long m z q h g w a fit;
            value = cells-value m z q h g w a fit;
            eight = w.eight;
            place = λ i o. refl;
          })

      first-waits : (i : ℕ) → i < N → is_wait (instr_at (code_of m i) ((handed m g a).places i)) ≡ true
      unfolding handed registers_fit
      first-waits i o =
          all-below (λ i. is_wait (instr_at (code_of m i) (get_or g.places i 0))) N
          (and_right (all_below R (λ r. fits (width_of m (I + r)) (value_at g.value g.unknown r)))
          (all_below N (λ i. is_wait (instr_at (code_of m i) (get_or g.places i 0)))) right)
          i o

      first-cells : (r : ℕ) → r < R → get_or first.cells (I + r) 0 ≡ cell_of (value_at g.value g.unknown r)
      first-cells r o = ap (λ (cs : List ℕ). get_or cs (I + r) 0) (cells_are m z q h g w a fit) ∙ register-cell m z q h g w a fit r o

      pub cycle-given : clocked_on q P rows numbers g a ≡ given m (clocked m T g a) g
      unfolding clocked_on settled_on clocked
      cycle-given =
          given_is g w (handed m g a) first (turn_on q P rows numbers first) (turned (handed m g a) first first-stands first-waits)
          first-cells refl
