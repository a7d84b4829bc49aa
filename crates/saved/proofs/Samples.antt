-- Saved states by computation: a value that is x and one that is x in a bit, a pending value, a mark, counts of 64 bits and allowances of
-- 32, states of the older forms brought over, and bytes that are no state. Assumes nothing.
use mathlib.Core.Path.{◌≡◌, refl}
use mathlib.Core.Bool.{true, false}
use mathlib.Core.List.{[], ◌∷◌, ◌++◌}
use mathlib.Core.Option.{none, some}
use lib.ListN.{get_or, set, take, drop}
use Rattle.values.specs.Values.{known, ones, all_unknown}
use Rattle.values.specs.Planes.{value_at, number_of, marks_of}
use Rattle.sheet.specs.Reading.{word, word_of}
use Rattle.sheet.specs.Expression.{Scope}
use Rattle.state.specs.declared.State.{State}
use Rattle.state.specs.State.{with_planes, with_slots, with_places, with_marks, counters_of, count_of, allowance_of, with_counters}
use Rattle.state.specs.State.{value_of, with_value, with_pending, with_place, with_due}
use Rattle.state.specs.Rows.{rows, list_of, all_below}
use Rattle.saved.specs.Saved.{flag_byte, word_bytes, value_row, value_bytes, slot_row, slot_bytes}
use Rattle.saved.specs.Saved.{place_row, place_bytes, due_row, due_bytes, body, long_bytes, count_bytes, allowance_bytes, tail, saved}
use Rattle.saved.specs.Saved.{is_flag, flags, is_form, flag_at, flags_at, places_at, long_of, counters_at}
use Rattle.saved.specs.Saved.{is_saved, state_in, loaded, zero_state}
use Rattle.saved.specs.Older.{Older, older_row, older_slot, older_body, saved_short, saved_long, saved_users}
use Rattle.saved.specs.Older.{is_older, older_value, older_in, alone, taken, refused, admitted, older_over, variable_width, register_width}

-- Variable 0 is x in its one bit, variable 1 is 5 but for its unknown bit 1, register 1 is to become 67305985, thread 7 is at place 9,
-- wire 31 is due, time 2^32 + 258, user 0's count 3 of 5 and user 3's 2^56 of 2^24 + 1.
sample : State
sample =
    with_counters
    (with_due (with_place (with_pending
    (with_value (with_value zero_state 0 (all_unknown 1)) 1 (record { number = 5; unknown = 2 })) 1 (known 67305985)) 7 9) 31 true)
    (counters_of 4294967554 (3 ∷ 0 ∷ 0 ∷ 72057594037927936 ∷ []) (5 ∷ 0 ∷ 0 ∷ 16777217 ∷ []))

-- The form, variable 0 and variable 1; register 1's slot, held, low byte first, without marks; thread 7's place; wire 31's mark and time;
-- the counts; the allowances.
sample-saved :
    (take 17 (saved sample) ≡ 4 ∷ 0 ∷ 0 ∷ 0 ∷ 0 ∷ 1 ∷ 0 ∷ 0 ∷ 0 ∷ 5 ∷ 0 ∷ 0 ∷ 0 ∷ 2 ∷ 0 ∷ 0 ∷ 0 ∷ [])
    × (take 9 (drop 650 (saved sample)) ≡ 1 ∷ 1 ∷ 2 ∷ 3 ∷ 4 ∷ 0 ∷ 0 ∷ 0 ∷ 0 ∷ [])
    × (get_or (saved sample) 936 0 ≡ 9) × (take 9 (drop 968 (saved sample)) ≡ 1 ∷ 2 ∷ 1 ∷ 0 ∷ 0 ∷ 1 ∷ 0 ∷ 0 ∷ 0 ∷ [])
    × (take 9 (drop 977 (saved sample)) ≡ 3 ∷ 0 ∷ 0 ∷ 0 ∷ 0 ∷ 0 ∷ 0 ∷ 0 ∷ 0 ∷ [])
    × (drop 1000 (saved sample)
    ≡ 0 ∷ 0 ∷ 0 ∷ 0 ∷ 0 ∷ 0 ∷ 0 ∷ 0 ∷ 1 ∷ 5 ∷ 0 ∷ 0 ∷ 0 ∷ 0 ∷ 0 ∷ 0 ∷ 0 ∷ 0 ∷ 0 ∷ 0 ∷ 0 ∷ 1 ∷ 0 ∷ 0 ∷ 1 ∷ [])
unfolding sample known ones all_unknown zero_state with_counters with_due with_marks with_place with_places with_pending with_slots with_value with_planes number_of marks_of saved body tail count_bytes allowance_bytes long_bytes value_bytes slot_bytes place_bytes due_bytes rows value_row slot_row place_row due_row flag_byte word_bytes
sample-saved = (refl, refl, refl, refl, refl, refl)

sample-loaded : loaded (saved sample) ≡ some sample
unfolding sample known ones all_unknown zero_state with_counters with_due with_marks with_place with_places with_pending with_slots with_value with_planes number_of marks_of saved body tail count_bytes allowance_bytes long_bytes value_bytes slot_bytes place_bytes due_bytes rows value_row slot_row place_row due_row flag_byte word_bytes loaded is_saved is_form flags all_below is_flag counters_at long_of state_in flags_at places_at list_of flag_at word_of word
sample-loaded = refl

-- An older state: variables 0 and 2 are x, with 7 and 9 under it, variable 1 is 3; the slots of registers 0 and 2 are x, that of register
-- 1 is 5. The sheet has an input, registers of 8 and 4 bits, and a wire of 3.
older : Older
older =
    record {
      value = 7 ∷ 3 ∷ 9 ∷ [];
      unknown = true ∷ false ∷ true ∷ [];
      pending = 6 ∷ 5 ∷ 4 ∷ [];
      unsure = true ∷ false ∷ true ∷ [];
      held = true ∷ [];
      places = 8 ∷ [];
      due = true ∷ [];
    }

scope : Scope
scope = record { inputs = 1; registers = 2; widths = 1 ∷ 8 ∷ 4 ∷ 3 ∷ []; declared = 0; functions = [] }

-- Forms 1, 2 and 3, of time 258 and user 0's count 3.
older-saved :
    (take 6 (saved_short older 258 3) ≡ 1 ∷ 1 ∷ 7 ∷ 0 ∷ 0 ∷ 0 ∷ [])
    × (take 7 (drop 400 (saved_short older 258 3)) ≡ 0 ∷ 1 ∷ 1 ∷ 6 ∷ 0 ∷ 0 ∷ 0 ∷ [])
    × (drop 632 (saved_short older 258 3) ≡ 0 ∷ 2 ∷ 1 ∷ 0 ∷ 0 ∷ 3 ∷ 0 ∷ 0 ∷ 0 ∷ [])
    × (drop 632 (saved_long older 258 3) ≡ 0 ∷ 2 ∷ 1 ∷ 0 ∷ 0 ∷ 0 ∷ 0 ∷ 0 ∷ 0 ∷ 3 ∷ 0 ∷ 0 ∷ 0 ∷ 0 ∷ 0 ∷ 0 ∷ 0 ∷ [])
unfolding older saved_short saved_long older_body older_row older_slot long_bytes place_bytes due_bytes rows place_row due_row flag_byte word_bytes
older-saved = (refl, refl, refl, refl)

-- Variable 0 is x in its bit, 1 is 3, 2 is x in its 4 bits and 79, past the sheet's, is 0; slot 0 is x in 8 bits, 1 is 5, and 2, past the
-- registers, is x in 32 bits. The number under x is 0.
older-state : State
older-state = older_in (variable_width scope) (register_width scope) (saved_short older 0 0) (counters_of 0 [] [])

older-values :
    (value_of older-state 0 ≡ record { number = 0; unknown = 1 }) × (value_of older-state 1 ≡ known 3)
    × (value_of older-state 2 ≡ record { number = 0; unknown = 15 }) × (value_of older-state 79 ≡ known 0)
    × (take 4 older-state.pending ≡ 0 ∷ 5 ∷ 0 ∷ 0 ∷ []) × (take 4 older-state.unsure ≡ 255 ∷ 0 ∷ 4294967295 ∷ 0 ∷ [])
unfolding older scope older-state known ones all_unknown value_of value_at number_of marks_of variable_width register_width saved_short older_body older_row older_slot place_bytes due_bytes rows place_row due_row flag_byte word_bytes older_in older_value flags_at places_at list_of flag_at word_of word
older-values = (refl, refl, refl, refl, refl, refl)

-- They are brought over with the count as user 0's and the allowances that are handed over, where user 0's is 3 or more; a state of
-- form 3 keeps its own.
sample-over :
    ((older_over (variable_width scope) (register_width scope) (saved_short older 258 3) (3 ∷ 9 ∷ 0 ∷ 7 ∷ [])).state.counters
    ≡ counters_of 258 (3 ∷ 0 ∷ 0 ∷ 0 ∷ []) (3 ∷ 9 ∷ 0 ∷ 7 ∷ []))
    × ((older_over (variable_width scope) (register_width scope) (saved_long older 258 3) (3 ∷ 9 ∷ 0 ∷ 7 ∷ [])).state.counters
    ≡ counters_of 258 (3 ∷ 0 ∷ 0 ∷ 0 ∷ []) (3 ∷ 9 ∷ 0 ∷ 7 ∷ []))
    × (older_over (variable_width scope) (register_width scope) (saved_short older 258 3) (2 ∷ 9 ∷ 9 ∷ 9 ∷ []) ≡ refused 31)
    × (older_over (variable_width scope) (register_width scope) (saved_long older 258 3) (2 ∷ 9 ∷ 9 ∷ 9 ∷ []) ≡ refused 31)
    × ((older_over (variable_width scope) (register_width scope)
    (saved_users older (counters_of 258 (3 ∷ 1 ∷ 0 ∷ 0 ∷ []) (4 ∷ 2 ∷ 0 ∷ 0 ∷ []))) (2 ∷ 9 ∷ 9 ∷ 9 ∷ [])).state.counters
    ≡ counters_of 258 (3 ∷ 1 ∷ 0 ∷ 0 ∷ []) (4 ∷ 2 ∷ 0 ∷ 0 ∷ []))
    × (older_over (variable_width scope) (register_width scope) (set (saved_short older 258 3) 402 2) (9 ∷ 9 ∷ 9 ∷ 9 ∷ []) ≡ refused 31)
unfolding older scope variable_width register_width saved_short saved_long saved_users older_body older_row older_slot tail count_bytes allowance_bytes long_bytes place_bytes due_bytes rows place_row due_row flag_byte word_bytes older_over taken refused admitted alone count_of allowance_of is_older is_form flags all_below is_flag counters_at long_of older_in list_of word_of word
sample-over = (refl, refl, refl, refl, refl, refl)

-- Bytes of another length, form or flag: no byte, one byte more, form 3, and 2 at the flag of a slot and at a mark of a wire.
bad-refused :
    (loaded [] ≡ none) × (loaded (saved zero_state ++ (0 ∷ [])) ≡ none) × (loaded (set (saved zero_state) 0 3) ≡ none)
    × (loaded (set (saved zero_state) 641 2) ≡ none) × (loaded (set (saved zero_state) 920 2) ≡ none)
    × (loaded (set (saved zero_state) 968 2) ≡ none)
unfolding zero_state saved body tail count_bytes allowance_bytes long_bytes value_bytes slot_bytes place_bytes due_bytes rows value_row slot_row place_row due_row flag_byte word_bytes loaded is_saved is_form flags all_below is_flag
bad-refused = (refl, refl, refl, refl, refl, refl)
