-- A file of registers' first values, line by line: a line has a register's name and, behind blanks, its value, written as in a line of
-- inputs; or it is blank. The first line that is wrong is told, and the values so far stay.
use Rattle.std.specs.Prelude.{ℕ, zero, suc, ◌+◌, ◌-◌, ◌%◌, ◌^◌, Bool, true, false, not, List, [], ◌∷◌, length, ◌==◌, nat_lt, slice_index, slice_set}
use Rattle.values.specs.Values.{pick, ◌is◌then◌else◌}
use Rattle.naming.specs.Naming.{name_of, same_text}
use Rattle.hextext.specs.Characters.{is_blank}
use Rattle.stimulus.specs.declared.Line.{Line}
use Rattle.stimulus.specs.Counting.{counted, first_from}
use Rattle.stimulus.specs.Lines.{word_at, line_of}
use Rattle.stimulus.specs.Waiting.{line_end}
use Rattle.state.specs.declared.State.{State}
use Rattle.first_values.specs.declared.Marked.{Marked}

-- ---- run_end: the end of a run of blanks, or of a run of others, that starts at a place

unfoldable pub ends : Bool → List ℕ → ℕ → Bool
ends blank line i = pick blank (not (is_blank (slice_index line i))) (is_blank (slice_index line i))

unfoldable pub run_end : Bool → List ℕ → ℕ → ℕ
run_end blank line from = first_from (ends blank line) (length line - from) from

-- ---- register_of: the register that has a name; the number behind the registers where none has

unfoldable pub is_named : List ℕ → List ℕ → ℕ → Bool
is_named names word v = same_text (name_of names v) word

unfoldable pub register_of : List ℕ → ℕ → ℕ → List ℕ → ℕ
register_of names from to word = first_from (is_named names word) (to - from) from

-- ---- value_in: the value in the rest of a line, of a width, as in a line of inputs that has one

unfoldable pub value_in : ℕ → List ℕ → Line
value_in width line = line_of line (1 ∷ width ∷ []) 2

-- ---- the state after a line, and what is wrong with it: 0 nothing, 8 no such register, 1 no value, 2 to 6 as in a line of inputs; with
-- the line's number and the column

abbrev pub marked : ℕ → ℕ → ℕ → State → Marked
marked error line column st = record { error = error; line = line; column = column; state = st }

-- A state has 80 variables.
unfoldable pub with_value : State → ℕ → ℕ → ℕ → State
with_value st v n marks =
    pick (nat_lt v 80)
    (record {
      value = slice_set st.value v n;
      unknown = slice_set st.unknown v marks;
      pending = st.pending;
      unsure = st.unsure;
      held = st.held;
      places = st.places;
      due = st.due;
      counters = st.counters;
    })
    st

-- What the rest of a line gives register v, from a place of the line on.
unfoldable pub valued : State → ℕ → ℕ → ℕ → Line → Marked
valued st v number to p =
    p.error is 0 then marked 0 0 0 (with_value st v (slice_index p.value 1) (slice_index p.unknown 1)) else
    marked p.error number ((to + p.column) % 2 ^ 64) st

module _ (inputs registers : ℕ) (widths names : List ℕ) where
  -- A line whose first word begins and ends at these places.
  unfoldable pub word_taken : List ℕ → ℕ → ℕ → ℕ → State → Marked
  word_taken line number from to st =
      let v = register_of names inputs (inputs + registers) (word_at line from to) in
      pick (nat_lt v (inputs + registers))
      (valued st v number to (value_in (slice_index widths v) (word_at line to (length line))))
      (marked 8 number (counted from) st)

  -- Error 1 of a whole line: it is blank, or a comment.
  unfoldable pub line_taken : List ℕ → ℕ → State → Marked
  line_taken line number st =
      let from = run_end true line 0 in
      (value_in 32 line).error is 1 then marked 0 0 0 st else
      word_taken line number from (run_end false line from) st

  -- ---- lines_taken: at most so many lines, from a place on

  unfoldable pub lines_from : List ℕ → ℕ → ℕ → ℕ → State → Marked
  lines_from bytes zero from number st = marked 0 0 0 st
  lines_from bytes (suc n) from number st =
      let end = line_end bytes from (length bytes) in
      let t = line_taken (word_at bytes from end) number st in
      pick (nat_lt from (length bytes))
      (pick (t.error == 0) (lines_from bytes n (counted end) (counted number) t.state) t)
      (marked 0 0 0 st)

  -- A file has no more lines than bytes.
  unfoldable pub lines_taken : List ℕ → State → Marked
  lines_taken bytes st = lines_from bytes (length bytes) 0 1 st
