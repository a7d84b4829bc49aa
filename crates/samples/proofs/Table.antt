-- Document 01's starred samples, computed. Assumes nothing.
use mathlib.Core.Path.{◌≡◌, refl}
use Prim.Native.Nat.{ℕ}
use mathlib.Core.Bool.{true}
use mathlib.Core.List.{map}
use lib.ListN.{replicate}
use Rattle.values.specs.Values.{known, ones, all_unknown, fits, same}
use Rattle.values.specs.Edges.{level, moves, fires}
use Rattle.values.specs.Planes.{value_at, number_of, marks_of}
use Rattle.values.proofs.Samples as values
use Rattle.sheet.specs.Expression.{Expr}
use Rattle.sheet.specs.Statement.{assign, later, if_else, size}
use Rattle.evaluation.specs.Evaluation.{eval, reads}
use Rattle.pseudocode.specs.Translation.{translate, thread_code}
use Rattle.text.proofs.Samples as text
use Rattle.state.specs.Rows.{list_of}
use Rattle.state.specs.State.{count_of, allowance_of, with_planes, with_slots, with_places, with_marks, with_counters, value_of, with_value, pending_of, with_pending, without_pending, place_of, with_place, is_due, with_due}
use Rattle.events.specs.Cycle.{variables, code_of, instr_at, current, wire_expr, wire_variable, any_below, all_below, is_wait, thread_enabled, items, enabled, any_enabled, is_some, any_pending, quiet, changed, terms_fire, wait_fires, fire_below, touched, mark_below, react, run_instr, run_thread, run_wire, store_one, store_pending, commit, store_inputs, feed}
use Rattle.events.specs.Calls.{due_below, started, width_of, answer, spend_time, spend, by_user, counted_by, counted, timed, refusal, performed, choose_in, onward, run_in, input_of, inputs_fit, instant_refusal, instant_in}
use Rattle.events.proofs.Samples.{branches, reached}
use Rattle.events.proofs.Samples as events
use Rattle.nextstate.proofs.Samples as nextstate
use Rattle.samples.specs.Table.{again, swaps, Table}

if-else :
    (e x y : Expr) (a b : ℕ) →
    (size (if_else e (assign a x) (assign b y)) ≡ 4)
    × (size (if_else e (assign a x) (later b y)) ≡ 4)
    × (size (if_else e (later a x) (assign b y)) ≡ 4)
    × (size (if_else e (later a x) (later b y)) ≡ 4)
unfolding size
if-else e x y a b = (refl, refl, refl, refl)

-- The thread that assigns 5 is past the assignment.
went_on : place_of (run_in events.fives 0 again (events.begun 1)).state 0 ≡ 1
unfolding same level moves fires value_at number_of marks_of known ones all_unknown size eval reads translate thread_code with_planes with_slots with_places with_marks with_counters value_of with_value pending_of with_pending without_pending place_of with_place is_due with_due variables code_of instr_at current wire_expr wire_variable any_below is_wait thread_enabled items enabled any_enabled is_some any_pending changed terms_fire wait_fires fire_below touched mark_below react run_instr run_thread run_wire store_one store_pending commit due_below list_of started count_of allowance_of answer spend_time spend by_user counted_by counted refusal performed choose_in onward run_in
went_on = refl

-- After the commit nothing is enabled and nothing pending.
at_rest : (x y : ℕ) → map (quiet events.swapping) (swaps x y) ≡ replicate 6 true
unfolding branches reached fits same level moves fires value_at number_of marks_of known ones all_unknown size eval reads translate thread_code with_planes with_slots with_places with_marks with_counters value_of with_value pending_of with_pending without_pending place_of with_place is_due with_due variables code_of instr_at current wire_expr wire_variable any_below all_below is_wait thread_enabled items enabled any_enabled is_some any_pending quiet changed terms_fire wait_fires fire_below touched mark_below react run_instr run_thread run_wire store_one store_pending commit store_inputs feed due_below list_of started width_of count_of allowance_of answer spend_time spend by_user counted_by counted timed refusal performed choose_in onward run_in input_of inputs_fit instant_refusal instant_in
at_rest x y = refl

pub table : Table
table =
    record {
      sum = values.sample-sum;
      difference = values.sample-difference;
      x-and-0 = values.sample-x-and-0;
      if-2 = values.sample-if-2;
      if-x = values.sample-if-x;
      x-to-1 = values.sample-x-to-1;
      1-to-1 = values.sample-1-to-1;
      0-to-x = values.sample-0-to-x;
      if-else = if-else;
      five-first = (events.five-again).0;
      five-again = ((events.five-again).2, (events.five-again).3, went_on, (events.five-again).4);
      swapped = λ x y. ((events.swapped-in-any-order x y).0, at_rest x y, (events.swapped-in-any-order x y).1);
      plain-swap = (nextstate.plain-swap).1;
      second-stands = ((events.second-stands).2, (events.second-stands).3);
      flip-flop = (text.samples).0;
    }
