-- Document 01's samples that speak of events ("Samples from the stands"), computed on small modules.
use mathlib.Core.Path.{◌≡◌, refl}
use mathlib.Core.Bool.{true, false}
use mathlib.Core.List.{List, [], ◌∷◌, ◌++◌, map}
use mathlib.Core.Option.{none, some}
use Prim.Native.Nat.{ℕ, zero, suc}
use lib.ListN.{replicate}
use lib.Dec.{eqb}
use Rattle.values.specs.declared.Value.{Value}
use Rattle.values.specs.declared.Edge.TheVariants.{Change, Posedge}
use Rattle.values.specs.Values.{known, ones, all_unknown, fits, same}
use Rattle.values.specs.Edges.{level, moves, fires}
use Rattle.values.specs.Planes.{value_at, number_of, marks_of}
use Rattle.sheet.specs.Expression.{Expr, variable, constant, unary}
use Rattle.sheet.specs.Statement.{Stmt, assign, later, sequence, wait, size}
use Rattle.sheet.specs.Module.{Module}
use Rattle.evaluation.specs.Evaluation.{eval, reads}
use Rattle.pseudocode.specs.Translation.{translate, thread_code}
use Rattle.state.specs.declared.State.{State}
use Rattle.state.specs.Rows.{list_of}
use Rattle.state.specs.State.{count_of, allowance_of, with_planes, with_slots, with_places, with_marks, with_counters, value_of, with_value, pending_of, with_pending, without_pending, place_of, with_place, is_due, with_due}
use Rattle.events.specs.declared.Inputs.{Inputs}
use Rattle.events.specs.Cycle.{variables, code_of, instr_at, current, wire_expr, wire_variable, any_below, all_below, is_wait, thread_enabled, items, enabled, any_enabled, is_some, any_pending, quiet, changed, terms_fire, wait_fires, fire_below, touched, mark_below, react, run_instr, run_thread, run_wire, store_one, store_pending, commit, store_inputs, feed}
use Rattle.events.specs.Rows.{whole_rows}
use Rattle.events.specs.Calls.{due_below, started, width_of, answer, spend_time, spend, by_user, counted_by, counted, timed, refusal, performed, choose_in, onward, run_in, input_of, inputs_fit, instant_refusal, instant_in}

-- Variable 0 is the clock, and the only input. Register r of width 8 is variable r + 1.
abbrev pub module-of : ℕ → List ℕ → List Expr → List (Stmt Expr) → Module Expr
module-of registers widths wires threads =
    record {
      scope = record { inputs = 1; registers = registers; widths = 1 ∷ widths; declared = 0; functions = [] };
      wires = wires;
      threads = threads;
    }

abbrev pub posedge-clock : Stmt Expr
posedge-clock = wait (record { edge = Posedge; variable = 0 } ∷ [])

-- The clock alone, as an instant's inputs.
abbrev pub clock : ℕ → ℕ → Inputs
clock n u = record { count = 1; value = n ∷ replicate 15 0; unknown = u ∷ replicate 15 0 }

-- At the start with n wires, a clock and variables of 8 bits: one user with nine choices.
abbrev pub begun : ℕ → State
begun n = started (1 ∷ 8 ∷ 8 ∷ []) n (9 ∷ 0 ∷ 0 ∷ 0 ∷ [])

-- ---- "Register 5 assigned 5 wakes no thread."

-- Thread 0 assigns 5 to register 1 over and over; thread 1 waits for a change of it, and wire 2 is its complement.
abbrev pub fives : Module Expr
fives =
    module-of 1 (8 ∷ 8 ∷ []) (unary 1 8 (variable 1) ∷ [])
    (assign 1 (constant 8 5) ∷ wait (record { edge = Change; variable = 1 } ∷ []) ∷ [])

-- The first assignment wakes the thread and marks the wire. Both go back to rest, and the second assignment finds 5.
pub five-again :
    (place_of (run_in fives 0 (2 ∷ 0 ∷ []) (begun 1)).state 1 ≡ 1)
    × (is_due (run_in fives 0 (2 ∷ 0 ∷ []) (begun 1)).state 0 ≡ true)
    × ((run_in fives 0 (2 ∷ 0 ∷ 0 ∷ 1 ∷ 2 ∷ 0 ∷ []) (begun 1)).accepted ≡ 6)
    × (value_of (run_in fives 0 (2 ∷ 0 ∷ 0 ∷ 1 ∷ 2 ∷ 0 ∷ []) (begun 1)).state 1 ≡ known 5)
    × (place_of (run_in fives 0 (2 ∷ 0 ∷ 0 ∷ 1 ∷ 2 ∷ 0 ∷ []) (begun 1)).state 1 ≡ 0)
    × (is_due (run_in fives 0 (2 ∷ 0 ∷ 0 ∷ 1 ∷ 2 ∷ 0 ∷ []) (begun 1)).state 0 ≡ false)
unfolding same level moves fires value_at number_of marks_of known ones all_unknown size eval reads translate thread_code with_planes with_slots with_places with_marks with_counters value_of with_value pending_of with_pending without_pending place_of with_place is_due with_due variables code_of instr_at current wire_expr wire_variable any_below is_wait thread_enabled items enabled any_enabled is_some any_pending changed terms_fire wait_fires fire_below touched mark_below react run_instr run_thread run_wire store_one store_pending commit due_below list_of started count_of allowance_of answer spend_time spend by_user counted_by counted refusal performed choose_in onward run_in
five-again = (refl, refl, refl, refl, refl, refl)

-- ---- "Two threads `a <= b`, `b <= a`: swapped in any order."

-- Every state that n accepted choices reach, over all choices: the items, and the commit.
unfoldable pub branches : Module Expr → (State → List State) → ℕ → State → List State
branches m next zero st = []
branches m next (suc c) st =
    elim (eqb (refusal m st 0 c) 0) [ true ↦ branches m next c st ++ next (performed m st 0 c) | false ↦ branches m next c st ]

unfoldable pub reached : Module Expr → ℕ → State → List State
reached m zero st = st ∷ []
reached m (suc n) st = branches m (reached m n) 256 st

-- @(posedge clock) a <= b; and @(posedge clock) b <= a; with a variable 1 and b variable 2
abbrev pub swapping : Module Expr
swapping =
    module-of 2 (8 ∷ 8 ∷ []) []
    (sequence posedge-clock (later 1 (variable 2)) ∷ sequence posedge-clock (later 2 (variable 1)) ∷ [])

-- a is x and b is y, and the clock rises.
abbrev pub risen : ℕ → ℕ → State
risen x y = (instant_in swapping (with_value (with_value (begun 0) 1 (known x)) 2 (known y)) (clock 1 0)).state

-- Each thread has two instructions to run, in six orders, and then the commit is the only choice. After it nothing is.
pub swapped-in-any-order :
    (x y : ℕ) →
    (map {B = Value × Value} (λ s. (value_of s 1, value_of s 2)) (reached swapping 5 (risen x y)) ≡ replicate 6 (known y, known x))
    × (reached swapping 6 (risen x y) ≡ [])
unfolding branches reached fits same level moves fires value_at number_of marks_of known ones all_unknown size eval reads translate thread_code with_planes with_slots with_places with_marks with_counters value_of with_value pending_of with_pending without_pending place_of with_place is_due with_due variables code_of instr_at current wire_expr wire_variable any_below all_below is_wait thread_enabled items enabled any_enabled is_some any_pending quiet changed terms_fire wait_fires fire_below touched mark_below react run_instr run_thread run_wire store_one store_pending commit store_inputs feed due_below list_of started width_of count_of allowance_of answer spend_time spend by_user counted_by counted timed refusal performed choose_in onward run_in input_of inputs_fit instant_refusal instant_in
swapped-in-any-order x y = (refl, refl)

-- ---- "Two pending values for one register: the second stands."

-- r <= 3; r <= 5; @(posedge clock);
abbrev pub twice : Module Expr
twice = module-of 1 (8 ∷ []) [] (sequence (later 1 (constant 8 3)) (sequence (later 1 (constant 8 5)) posedge-clock) ∷ [])

pub second-stands :
    (pending_of (run_in twice 0 (0 ∷ []) (begun 0)).state 0 ≡ some (known 3))
    × (pending_of (run_in twice 0 (0 ∷ 0 ∷ []) (begun 0)).state 0 ≡ some (known 5))
    × ((run_in twice 0 (0 ∷ 0 ∷ 255 ∷ []) (begun 0)).accepted ≡ 3)
    × (value_of (run_in twice 0 (0 ∷ 0 ∷ 255 ∷ []) (begun 0)).state 1 ≡ known 5)
    × (pending_of (run_in twice 0 (0 ∷ 0 ∷ 255 ∷ []) (begun 0)).state 0 ≡ none)
unfolding same level moves fires value_at number_of marks_of known ones all_unknown size eval reads translate thread_code with_planes with_slots with_places with_marks with_counters value_of with_value pending_of with_pending without_pending place_of with_place is_due with_due variables code_of instr_at current wire_expr wire_variable any_below is_wait thread_enabled items enabled any_enabled is_some any_pending changed terms_fire wait_fires fire_below touched mark_below react run_instr run_thread run_wire store_one store_pending commit due_below list_of started count_of allowance_of answer spend_time spend by_user counted_by counted refusal performed choose_in onward run_in
second-stands = (refl, refl, refl, refl, refl)

-- ---- "x to 1 fires posedge; 1 to 1 doesn't; 0 to x doesn't." The last is document 02's, request [2]: it does.

-- @(posedge clock);
abbrev rising : Module Expr
rising = module-of 1 (8 ∷ []) [] (posedge-clock ∷ [])

-- The thread's place after an instant with the clock at n with the mark u, where the clock was at c and the thread at its wait.
abbrev woken : Value → ℕ → ℕ → ℕ
woken c n u = place_of (instant_in rising (with_value (begun 0) 0 c) (clock n u)).state 0

pub posedge-fires :
    (woken (all_unknown 1) 1 0 ≡ 1)
    × (woken (known 1) 1 0 ≡ 0)
    × (woken (known 0) 0 1 ≡ 1)
    × (woken (known 0) 1 0 ≡ 1)
    × ((instant_in rising (with_value (begun 0) 0 (known 1)) (clock 1 0)).number ≡ 0)
    × ((instant_in rising (with_value (begun 0) 0 (known 0)) (clock 0 1)).number ≡ 0)
unfolding fits same level moves fires value_at number_of marks_of known ones all_unknown size eval reads translate thread_code with_planes with_slots with_places with_marks with_counters value_of with_value pending_of with_pending without_pending place_of with_place is_due with_due variables code_of instr_at current wire_expr wire_variable any_below all_below is_wait thread_enabled items enabled any_enabled is_some any_pending quiet changed terms_fire wait_fires fire_below touched mark_below react run_instr run_thread run_wire store_one store_pending commit store_inputs feed due_below list_of started width_of count_of allowance_of answer spend_time spend by_user counted_by counted timed refusal performed choose_in onward run_in input_of inputs_fit instant_refusal instant_in
posedge-fires = (refl, refl, refl, refl, refl, refl)

-- ---- the numbers of a choice in their order: 22, 46, 33 to 35, 47. User 1's allowance is 0; thread 1 of `fives` is at its wait.

pub no-item-first : refusal fives (begun 1) 4 200 ≡ 22
unfolding same level moves fires value_at number_of marks_of known ones all_unknown size eval reads translate thread_code value_of pending_of place_of is_due variables code_of instr_at current wire_expr wire_variable any_below is_wait thread_enabled items enabled any_enabled is_some any_pending due_below list_of started count_of allowance_of spend by_user refusal
no-item-first = refl

pub no-user-next :
    (refusal fives (begun 1) 4 0 ≡ 46) × (refusal fives (begun 1) 4 1 ≡ 46) × (refusal fives (begun 1) 4 255 ≡ 46)
unfolding same level moves fires value_at number_of marks_of known ones all_unknown size eval reads translate thread_code value_of pending_of place_of is_due variables code_of instr_at current wire_expr wire_variable any_below is_wait thread_enabled items enabled any_enabled is_some any_pending due_below list_of started count_of allowance_of spend by_user refusal
no-user-next = (refl, refl, refl)

pub not-enabled-next : (refusal fives (begun 1) 1 1 ≡ 33) × (refusal fives (begun 1) 1 255 ≡ 34)
unfolding same level moves fires value_at number_of marks_of known ones all_unknown size eval reads translate thread_code value_of pending_of place_of is_due variables code_of instr_at current wire_expr wire_variable any_below is_wait thread_enabled items enabled any_enabled is_some any_pending due_below list_of started count_of allowance_of spend by_user refusal
not-enabled-next = (refl, refl)

pub used-up-last :
    (refusal fives (begun 1) 1 0 ≡ 47) × (refusal fives (begun 1) 1 2 ≡ 47) × (refusal fives (begun 1) 0 0 ≡ 0)
unfolding same level moves fires value_at number_of marks_of known ones all_unknown size eval reads translate thread_code value_of pending_of place_of is_due variables code_of instr_at current wire_expr wire_variable any_below is_wait thread_enabled items enabled any_enabled is_some any_pending due_below list_of started count_of allowance_of spend by_user refusal
used-up-last = (refl, refl, refl)

-- "is counted for that user alone"
pub counted-alone :
    (count_of (counted 2 (begun 0)) 2 ≡ 1) × (count_of (counted 2 (begun 0)) 0 ≡ 0) × (allowance_of (counted 2 (begun 0)) 0 ≡ 9)
unfolding due_below list_of started with_counters count_of allowance_of counted_by counted
counted-alone = (refl, refl, refl)

-- ---- 25: rows that aren't filled, marks that are too few or too many

pub whole-rows :
    (whole_rows [] [] ≡ true) × (whole_rows (replicate 16 0) (replicate 16 0) ≡ true)
    × (whole_rows (replicate 32 7) (replicate 32 1) ≡ true)
unfolding whole_rows
whole-rows = (refl, refl, refl)

pub ragged-rows :
    (whole_rows (replicate 15 0) (replicate 15 0) ≡ false) × (whole_rows (replicate 17 0) (replicate 17 0) ≡ false)
    × (whole_rows (replicate 32 0) (replicate 16 0) ≡ false) × (whole_rows (replicate 16 0) (replicate 17 0) ≡ false)
unfolding whole_rows
ragged-rows = (refl, refl, refl, refl)
