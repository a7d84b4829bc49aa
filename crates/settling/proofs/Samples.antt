-- A plain run, computed: each wire is stored once, and once more after the commit has changed the register that it reads.
use mathlib.Core.Path.{◌≡◌, refl}
use mathlib.Core.List.{[], ◌∷◌}
use Rattle.values.specs.Values.{known, ones, all_unknown, same}
use Rattle.values.specs.Edges.{level, moves, fires}
use Rattle.values.specs.Planes.{value_at, number_of, marks_of}
use Rattle.sheet.specs.Expression.{Expr, variable, constant}
use Rattle.sheet.specs.Statement.{later, sequence, size}
use Rattle.sheet.specs.Module.{Module}
use Rattle.evaluation.specs.Evaluation.{eval, reads}
use Rattle.pseudocode.specs.Translation.{translate, thread_code}
use Rattle.state.specs.declared.State.{State}
use Rattle.state.specs.Rows.{list_of}
use Rattle.state.specs.State.{count_of, allowance_of, with_planes, with_slots, with_places, with_marks, with_counters, value_of, with_value, pending_of, with_pending, without_pending, place_of, with_place, is_due, with_due}
use Rattle.events.specs.Cycle.{variables, code_of, instr_at, current, wire_expr, wire_variable, any_below, is_wait, thread_enabled, items, enabled, any_enabled, is_some, any_pending, quiet, changed, terms_fire, wait_fires, fire_below, touched, mark_below, react, run_instr, run_thread, run_wire, store_one, store_pending, commit}
use Rattle.events.specs.Calls.{due_below, started, answer, spend, by_user, counted_by, counted, refusal, performed, choose_in, choices_by, lowest, plain_choice}
use Rattle.events.proofs.Samples.{module-of, posedge-clock, begun}

-- Thread 0 assigns 5 to register 1 later, at each rise of the clock. Wire 0 is the register, wire 1 is wire 0.
abbrev pub two-wires : Module Expr
two-wires =
    module-of 1 (8 ∷ 8 ∷ 8 ∷ []) (variable 1 ∷ variable 2 ∷ [])
    (sequence posedge-clock (later 1 (constant 8 5)) ∷ [])

-- As at the start, but the thread has left its wait.
abbrev pub left-wait : State
left-wait = with_place (begun 2) 0 1

-- Two instructions, both wires, the commit, both wires again; then it is quiet.
pub stores-again : choices_by two-wires 0 (plain_choice two-wires) 20 left-wait ≡ 0 ∷ 0 ∷ 1 ∷ 2 ∷ 255 ∷ 1 ∷ 2 ∷ []
unfolding same level moves fires value_at number_of marks_of known ones all_unknown size eval reads translate thread_code with_planes with_slots with_places with_marks with_counters value_of with_value pending_of with_pending without_pending place_of with_place is_due with_due variables code_of instr_at current wire_expr wire_variable any_below is_wait thread_enabled items enabled any_enabled is_some any_pending quiet changed terms_fire wait_fires fire_below touched mark_below react run_instr run_thread run_wire store_one store_pending commit due_below list_of started count_of allowance_of answer spend by_user counted_by counted refusal performed choose_in choices_by lowest plain_choice
stores-again = refl
