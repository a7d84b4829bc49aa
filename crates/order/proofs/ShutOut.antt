-- Demand 3 is false of each misreading and each empty compiler that document 01 names (`shut_out`; specs/Misread): on one module and one
-- list of calls, computed, and for "the same table for each module" on two modules that differ in one expression.
use mathlib.Core.Path.{◌≡◌, refl, sym, ap, ◌∙◌}
use mathlib.Core.Logic.{◌≢◌}
use mathlib.Core.Bool.{Bool, true, false}
use mathlib.Core.List.{List, [], ◌∷◌, ◌++◌}
use Prim.Native.Nat.{ℕ, zero, suc, ◌+◌, ◌<◌}
use native.Mathlib.Omega.{arith}
use lib.ListN.{length, replicate}
use Rattle.values.specs.declared.Value.{Value}
use Rattle.values.specs.Values.{known, ones, all_unknown, fits, holds, same}
use Rattle.values.proofs.Values.{same→≡, same→≢}
use Rattle.values.specs.Edges.{level, moves, fires}
use Rattle.values.specs.Planes.{value_at, number_of, marks_of}
use Rattle.sheet.specs.Reading.{ok}
use Rattle.sheet.specs.Expression.{Expr, variable, constant}
use Rattle.sheet.specs.Statement.{later, sequence, if_else, size}
use Rattle.sheet.specs.Module.{Module, read}
use Rattle.evaluation.specs.Evaluation.{eval, reads}
use Rattle.pseudocode.specs.Translation.{translate, thread_code}
use Rattle.state.specs.declared.State.{State}
use Rattle.state.specs.Rows.{list_of, all_below}
use Rattle.state.specs.State.{count_of, allowance_of, with_planes, with_slots, with_places, with_marks, with_counters, value_of, with_value, pending_of, with_pending, without_pending, place_of, with_place, is_due, with_due}
use Rattle.events.specs.declared.Inputs.{Inputs}
use Rattle.events.specs.Cycle.{variables, code_of, instr_at, current, wire_expr, wire_variable, any_below, is_wait, thread_enabled, items, enabled, any_enabled, is_some, any_pending, quiet, changed, terms_fire, wait_fires, fire_below, touched, mark_below, react, run_instr, run_thread, run_wire, store_one, store_pending, commit, store_inputs, feed}
use Rattle.events.specs.Calls.{due_below, started, start_of, start, width_of, pending_fits, state_fits, judged, answer, spend_time, spend, by_user, counted_by, counted, timed, refusal, performed, choose_in, onward, run_in, run_list, resting, run_by, lowest, plain_choice, run_plain, input_of, inputs_fit, instant_refusal, instant_in, instant}
use Rattle.events.proofs.Samples.{posedge-clock}
use Rattle.nextstate.specs.Nodes.{a_variable, a_constant, a_branch}
use Rattle.nextstate.specs.Extraction.{Tables, extracted}
use Rattle.nextstate.specs.Book.{book}
use Rattle.nextstate.proofs.Samples.{reading, walking, turning, row, flip_flop, flip_flop_sheet, flip_flop_tables, flip-flop-read, flip-flop-extracted}
use Rattle.order.specs.Calls.{Call, a-plain-run, an-instant, chosen, ran, rested, instanced, called, final, before, instants, SameButClock, Cycles}
use Rattle.order.specs.Misread.{Reading, ShutOut, Misreadings, turned_by, idle_turn, conditional, conditionals, conditional_for_branch, taken_in_turn, rise_in_turn, turn_in_turn, thread_by_thread, turn_on_write, fired_by_the_write, turn_unsettled, settled_after_the_rise, idle_afterwards, nothing_run, same_tables}

-- ---- what is computed with

unfoldable simulating : Unit {0}
unfolding known ones all_unknown fits holds same level moves fires value_at number_of marks_of size eval reads translate thread_code with_planes with_slots with_places with_marks with_counters value_of with_value pending_of with_pending without_pending place_of with_place is_due with_due variables code_of instr_at current wire_expr wire_variable any_below all_below is_wait thread_enabled items enabled any_enabled is_some any_pending quiet changed terms_fire wait_fires fire_below touched mark_below react run_instr run_thread run_wire store_one store_pending commit store_inputs feed due_below list_of started start_of start width_of pending_fits state_fits judged count_of allowance_of answer spend_time spend by_user counted_by counted timed refusal performed choose_in resting run_by lowest plain_choice run_plain input_of inputs_fit instant_refusal instant_in instant rested instanced called final before instants
simulating = tt

-- ---- a list of calls on a sheet that extraction accepts, and a variable's value at its end

-- One user, with choices enough.
abbrev enough : List ℕ
enough = 999 ∷ 0 ∷ 0 ∷ 0 ∷ []

record Ended (s : List ℕ) (m : Module Expr) (T : Tables) (l : List Inputs) (v : ℕ) (a : Value) : Type 0 where
  is_read : read s ≡ ok m
  is-extracted : extracted m ≡ ok T
  calls : List Call
  feeds : instants s calls (start s enough).state ≡ l
  in-cycles : Cycles l
  at_rest : quiet m (final s calls (start s enough).state) ≡ true
  inside : v < variables m
  leaves : value_of (final s calls (start s enough).state) v ≡ a

-- A reading that has another value there is shut out.
shut : {s : List ℕ} {m : Module Expr} {T : Tables} {l : List Inputs} {v : ℕ} {a : Value} → Ended s m T l v a → (R : Reading) →
    a ≢ (R m T l).values v → ShutOut R
shut {s} {m} {T} {l} {v} {a} E R d =
    record {
      s = s;
      m = m;
      T = T;
      reads = E.is_read;
      expressions = E.is-extracted;
      allowances = enough;
      calls = E.calls;
      cycles = rw E.feeds E.in-cycles;
      rests = E.at_rest;
      variable = v;
      within = E.inside;
      differs = λ q. d (sym E.leaves ∙ q ∙ ap (λ k. (R m T k).values v) E.feeds);
    }

-- ---- instants of two inputs, the clock's first

abbrev both : ℕ → ℕ → Inputs
both c n = record { count = 2; value = c ∷ n ∷ replicate 14 0; unknown = replicate 16 0 }

unfoldable one-cycle : List Inputs
one-cycle = both 0 5 ∷ both 1 5 ∷ []

unfoldable two-cycles : List Inputs
two-cycles = both 0 5 ∷ both 1 5 ∷ both 0 7 ∷ both 1 7 ∷ []

-- A run to rest before and after each.
unfoldable run-through : List Inputs → List Call
run-through [] = a-plain-run 0 20 ∷ []
run-through (a ∷ l) = a-plain-run 0 20 ∷ an-instant a ∷ run-through l

only-the-clock : (n : ℕ) → SameButClock (both 1 n) (both 0 n)
unfolding input_of value_at
only-the-clock n zero l = refl
only-the-clock n (suc v) l = absurd (omega arith)

one-in-cycles : Cycles one-cycle
unfolding one-cycle Cycles input_of value_at known
one-in-cycles = (refl, refl, only-the-clock 5, tt)

two-in-cycles : Cycles two-cycles
unfolding two-cycles Cycles input_of value_at known
two-in-cycles = (refl, refl, only-the-clock 5, (refl, refl, only-the-clock 7, tt))

-- ---- @(posedge v0) if (v3) v2 <= 1; else v2 <= v4; and @(posedge v0) v3 <= v2; where the wire v4 is v1

unfoldable the-sheet : List ℕ
the-sheet =
    0x02 ∷ 0x02 ∷ 0x01 ∷ 0x02 ∷ 0x01 ∷ 0x08 ∷ 0x08 ∷ 0x08 ∷ 0x08 ∷ 0x02 ∷ 0x01 ∷ 0x0C ∷ 0x10 ∷ 0x01 ∷ 0x01 ∷ 0x00 ∷ 0x0E ∷ 0x02 ∷ 0x03 ∷
    0x23 ∷ 0x02 ∷ 0x0C ∷ 0x08 ∷ 0x01 ∷ 0x00 ∷ 0x00 ∷ 0x00 ∷ 0x23 ∷ 0x02 ∷ 0x02 ∷ 0x04 ∷ 0x0C ∷ 0x10 ∷ 0x01 ∷ 0x01 ∷ 0x00 ∷ 0x23 ∷ 0x03 ∷
    0x02 ∷ 0x02 ∷ []

unfoldable the-module : Module Expr
the-module =
    record {
      scope = record { inputs = 2; registers = 2; widths = 1 ∷ 8 ∷ 8 ∷ 8 ∷ 8 ∷ []; declared = 0; functions = [] };
      wires = variable 1 ∷ [];
      threads =
          sequence posedge-clock (if_else (variable 3) (later 2 (constant 8 1)) (later 2 (variable 4)))
          ∷ sequence posedge-clock (later 3 (variable 2))
          ∷ [];
    }

unfoldable the-tables : Tables
the-tables =
    record {
      nodes =
          a_variable 0 ∷ a_variable 1 ∷ a_variable 2 ∷ a_variable 3 ∷ a_variable 4 ∷ a_constant 8 1 ∷ a_constant 8 0 ∷ a_constant 8 0 ∷ a_branch 3 5 4 ∷
          a_branch 3 6 7 ∷ a_constant 8 0 ∷ [];
      rows = row (8 ∷ 3 ∷ []) 9 ++ row (2 ∷ 2 ∷ []) 10;
    }

-- The first cycle leaves 5 and x in the registers, v3 being x at its rise, and the second one 7 and 5.
the_end : Ended the-sheet the-module the-tables two-cycles 2 (known 7)
unfolding the-sheet the-module the-tables two-cycles run-through reading walking simulating
the_end =
    record {
      is_read = refl;
      is-extracted = refl;
      calls = run-through two-cycles;
      feeds = refl;
      in-cycles = two-in-cycles;
      at_rest = refl;
      inside = omega arith;
      leaves = refl;
    }

-- ---- v2 there, in each of the readings but the last

-- A value with another number than 7.
not-7 : (a : Value) → a.number ≢ 7 → known 7 ≢ a
unfolding known
not-7 a d e = d (sym (ap (λ (b : Value). b.number) e))

five : known 7 ≢ known 5
unfolding known
five = not-7 (known 5) (λ e. omega arith)

one : known 7 ≢ known 1
unfolding known
one = not-7 (known 1) (λ e. omega arith)

none : known 7 ≢ all_unknown 8
unfolding all_unknown
none = not-7 (all_unknown 8) (λ e. omega arith)

-- 1 and 7 agree in all bits but two.
abbrev merged : Value
merged = record { number = 1; unknown = 6 }

no-merged : known 7 ≢ merged
no-merged = not-7 merged (λ e. omega arith)

branch-value : (conditional_for_branch the-module the-tables two-cycles).values 2 ≡ merged
unfolding the-module the-tables two-cycles turning conditional_for_branch conditionals conditional
branch-value = refl

commit-value : (thread_by_thread the-module the-tables two-cycles).values 2 ≡ known 1
unfolding the-module the-tables two-cycles turning thread_by_thread turned_by turn_in_turn rise_in_turn taken_in_turn
commit-value = refl

wait-value : (fired_by_the_write the-module the-tables two-cycles).values 2 ≡ known 1
unfolding the-module the-tables two-cycles turning fired_by_the_write turned_by turn_on_write
wait-value = refl

wires-value : (settled_after_the_rise the-module the-tables two-cycles).values 2 ≡ known 5
unfolding the-module the-tables two-cycles turning settled_after_the_rise turned_by turn_unsettled
wires-value = refl

idle-value : (idle_afterwards the-module the-tables two-cycles).values 2 ≡ known 5
unfolding the-module the-tables two-cycles turning idle_afterwards turned_by idle_turn
idle-value = refl

nothing-value : (nothing_run the-module the-tables two-cycles).values 2 ≡ all_unknown 8
unfolding the-module the-tables two-cycles turning nothing_run turned_by idle_turn
nothing-value = refl

-- ---- "the same table for each module": document 01's flip-flop, and @(posedge v0) v2 <= 9; in the same scope

unfoldable nine-sheet : List ℕ
nine-sheet =
    0x02 ∷ 0x01 ∷ 0x00 ∷ 0x01 ∷ 0x01 ∷ 0x08 ∷ 0x08 ∷ 0x0C ∷ 0x10 ∷ 0x01 ∷ 0x01 ∷ 0x00 ∷ 0x23 ∷ 0x02 ∷ 0x0C ∷ 0x08 ∷ 0x09 ∷ 0x00 ∷ 0x00 ∷
    0x00 ∷ []

unfoldable nine : Module Expr
nine =
    record {
      scope = record { inputs = 2; registers = 1; widths = 1 ∷ 8 ∷ 8 ∷ []; declared = 0; functions = [] };
      wires = [];
      threads = sequence posedge-clock (later 2 (constant 8 9)) ∷ [];
    }

unfoldable nine-tables : Tables
nine-tables =
    record { nodes = a_variable 0 ∷ a_variable 1 ∷ a_variable 2 ∷ a_constant 8 9 ∷ a_constant 8 0 ∷ []; rows = row (3 ∷ []) 4 }

nine-end : Ended nine-sheet nine nine-tables one-cycle 2 (known 9)
unfolding nine-sheet nine nine-tables one-cycle run-through reading walking simulating
nine-end =
    record {
      is_read = refl;
      is-extracted = refl;
      calls = run-through one-cycle;
      feeds = refl;
      in-cycles = one-in-cycles;
      at_rest = refl;
      inside = omega arith;
      leaves = refl;
    }

flip-flop-end : Ended flip_flop_sheet flip_flop flip_flop_tables one-cycle 2 (known 5)
unfolding one-cycle run-through reading walking simulating
flip-flop-end =
    record {
      is_read = flip-flop-read;
      is-extracted = flip-flop-extracted.1;
      calls = run-through one-cycle;
      feeds = refl;
      in-cycles = one-in-cycles;
      at_rest = refl;
      inside = omega arith;
      leaves = refl;
    }

module _ (T : Tables) where
  abbrev the_same : Value
  the_same = (book flip_flop T one-cycle).values 2

  -- One table leaves one value in both.
  no_other : (book nine T one-cycle).values 2 ≡ the_same
  unfolding nine one-cycle turning
  no_other = refl

  nine-apart : the_same ≡ known 5 → known 9 ≢ (same_tables T nine nine-tables one-cycle).values 2
  unfolding same_tables known
  nine-apart e q =
      let h : known 9 ≡ known 5 = q ∙ no_other ∙ e in
      let z : ◌≡◌ {A = ℕ} 9 5 = ap (λ (a : Value). a.number) h in
      omega arith

  five-apart : the_same ≢ known 5 → known 5 ≢ (same_tables T flip_flop flip_flop_tables one-cycle).values 2
  unfolding same_tables
  five-apart d q = d (sym q)

  no-one-table : ShutOut (same_tables T)
  no-one-table = by (same the_same (known 5)) refl
    where
      by : (t : Bool) → same the_same (known 5) ≡ t → ShutOut (same_tables T)
      by true e = shut nine-end (same_tables T) (nine-apart (same→≡ the_same (known 5) e))
      by false e = shut flip-flop-end (same_tables T) (five-apart (same→≢ the_same (known 5) e))

-- ---- the theorem

pub shut_out : Misreadings
shut_out =
    record {
      branch = shut the_end conditional_for_branch (rw branch-value no-merged);
      commit = shut the_end thread_by_thread (rw commit-value one);
      wait = shut the_end fired_by_the_write (rw wait-value one);
      wires = shut the_end settled_after_the_rise (rw wires-value five);
      idle = shut the_end idle_afterwards (rw idle-value five);
      nothing = shut the_end nothing_run (rw nothing-value none);
      tables = no-one-table;
    }
