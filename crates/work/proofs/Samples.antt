-- A commit and the plain run after it, computed, on the two wires of settling's sample: both wires are stored, and both read a variable
-- that has changed since before the commit. Counted from after the commit only the second does: the first reads the register alone.
use mathlib.Core.Path.{◌≡◌, refl}
use mathlib.Core.List.{[], ◌∷◌}
use Rattle.values.specs.Values.{known, ones, all_unknown, same}
use Rattle.values.specs.Edges.{level, moves, fires}
use Rattle.values.specs.Planes.{value_at, number_of, marks_of}
use Rattle.sheet.specs.Statement.{size}
use Rattle.evaluation.specs.Evaluation.{eval, reads}
use Rattle.pseudocode.specs.Translation.{translate, thread_code}
use Rattle.state.specs.declared.State.{State}
use Rattle.state.specs.Rows.{list_of}
use Rattle.state.specs.State.{count_of, allowance_of, with_planes, with_slots, with_places, with_marks, with_counters, value_of, with_value, pending_of, with_pending, without_pending, place_of, with_place, is_due, with_due}
use Rattle.events.specs.Cycle.{variables, code_of, instr_at, current, wire_expr, wire_variable, any_below, is_wait, thread_enabled, items, enabled, any_enabled, is_some, any_pending, quiet, changed, terms_fire, wait_fires, fire_below, touched, mark_below, react, run_instr, run_thread, run_wire, store_one, store_pending, commit}
use Rattle.events.specs.Calls.{due_below, started, answer, spend, by_user, counted_by, counted, refusal, performed, choose_in, resting, run_by, choices_by, lowest, plain_choice}
use Rattle.settling.proofs.Samples.{two-wires, left-wait}
use Rattle.work.specs.Work.{up_to_commit, wires_of, readers_below, readers}
use Rattle.work.proofs.Turns.{stored, end}

-- What the samples compute with.
unfoldable computing : Unit {0}
unfolding same level moves fires value_at number_of marks_of known ones all_unknown size eval reads translate thread_code with_planes with_slots with_places with_marks with_counters value_of with_value pending_of with_pending without_pending place_of with_place is_due with_due variables code_of instr_at current wire_expr wire_variable any_below is_wait thread_enabled items enabled any_enabled is_some any_pending quiet changed terms_fire wait_fires fire_below touched mark_below react run_instr run_thread run_wire store_one store_pending commit due_below list_of started count_of allowance_of answer spend by_user counted_by counted refusal performed choose_in resting run_by choices_by lowest plain_choice up_to_commit wires_of readers_below readers
computing = tt

-- Two instructions and both wires have run; the commit is next.
abbrev before : State
before = (run_by two-wires 0 (plain_choice two-wires) 4 left-wait).state

abbrev after : State
after = (choose_in two-wires before 0 255).state

abbrev there : State
there = end two-wires 0 20 after

pub both_stored : stored two-wires 0 20 after ≡ 0 ∷ 1 ∷ []
unfolding computing
both_stored = refl

pub both-read-changed : readers two-wires (value_of before) (value_of there) ≡ 0 ∷ 1 ∷ []
unfolding computing
both-read-changed = refl

pub one-since-after : readers two-wires (value_of after) (value_of there) ≡ 1 ∷ []
unfolding computing
one-since-after = refl
