-- Traces: many clock cycles in one call, as in specs/Cycles, with what each instant and the run after it leave written into a lent array,
-- a row of 88 words: the variables (inputs, registers and wires, 80 words) and the places of the threads (8). Row p is instant number p's;
-- only the rows of instants that were accepted and run are written. Defined by the single calls, and on a plan.
use Rattle.std.specs.Prelude.{ℕ, zero, suc, ◌+◌, ◌*◌, ◌/◌, Bool, false, List, ◌++◌, ltb, leb, eqb, length, get_or}
use Rattle.std.proofs.lemmas.List.Edits.{sets}
use Rattle.values.specs.Values.{pick}
use Rattle.values.specs.Cells.{cell_of}
use Rattle.values.specs.Cells as cells
use Rattle.sheet.specs.Module.{read}
use Rattle.state.specs.declared.State.{State}
use Rattle.state.specs.State.{users, value_of}
use Rattle.state.specs.Rows.{list_of}
use Rattle.events.specs.declared.Inputs.{Inputs}
use Rattle.events.specs.Verdict.{number_of_verdict}
use Rattle.events.specs.Calls.{judged, instant, run_plain}
use Rattle.events.specs.Rows.{whole_rows}
use Rattle.plan.specs.Plan.{Plan}
use Rattle.plan_fitting.specs.Fitting.{plan_fits}
use Rattle.prepared_cycles.specs.declared.Cycled.{Cycled}
use Rattle.prepared_cycles.specs.Cycles.{cycled, row_inputs, run_cycles}
use Rattle.prepared_cycles.specs.Phases.{Moment, state_at, phase_at, laid_out, cycles_at}

-- ---- a row

abbrev pub places_in : List ℕ → List ℕ
places_in ps = list_of 8 (λ i. get_or ps i 0)

-- The cells of a state's variables, and its places.
unfoldable pub row_of : State → List ℕ
row_of st = list_of 80 (λ v. cell_of (value_of st v)) ++ places_in st.places

unfoldable pub written : ℕ → State → List ℕ → List ℕ
written p st w = sets w (88 * p) (row_of st)

-- ---- by the single calls: from instant number p on, n of them

module _ (s : List ℕ) (u : ℕ) (inputs : ℕ → Inputs) where
  unfoldable pub trace_from : ℕ → ℕ → State → List ℕ → List ℕ
  trace_from zero p st w = w
  trace_from (suc n) p st w =
      let i = instant s st (inputs p) in
      let r = run_plain s i.state u 65535 in
      pick (eqb i.number 0)
      (pick (eqb (number_of_verdict r.verdict) 0) (trace_from n (p + 1) r.state (written p r.state w))
      w)
      w

-- How many instants go by rows of these numbers.
abbrev pub rounds : List ℕ → ℕ
rounds ns = 2 * (length ns / 16)

-- 23: "a lent table of another length". Is there room for n instants?
abbrev pub has_room : ℕ → List ℕ → Bool
has_room n w = leb n (length w / 88)

module _ (s : List ℕ) (st : State) (u : ℕ) (ns xs w : List ℕ) where
  -- What the call answers: 23, 1 to 11, 31, 46, 25, and then instant by instant.
  unfoldable pub trace_cycles : Cycled
  trace_cycles = pick (has_room (rounds ns) w) (run_cycles s st u ns xs) (cycled 0 23 false st)

  -- What it leaves in what is lent.
  unfoldable pub traced_cycles : List ℕ
  traced_cycles =
      pick (has_room (rounds ns) w)
      (judged (read s) st (λ n. w)
      (λ m.
      pick (ltb u users)
      (pick (whole_rows ns xs) (trace_from s u (row_inputs m.scope.inputs ns xs) (rounds ns) 0 st w) w)
      w))
      w

-- ---- on a plan

-- A row as it lies in cells and places.
abbrev pub word_in : ℕ → ℕ
word_in c = cell_of (cells.value_of c)

abbrev pub words_in : List ℕ → List ℕ
words_in cs = list_of 80 (λ v. word_in (get_or cs v 0))

abbrev pub row_in : List ℕ → List ℕ → List ℕ
row_in cs ps = words_in cs ++ places_in ps

module _ (q : Plan) (inputs : ℕ → Inputs) where
  unfoldable pub trace_from_at : ℕ → ℕ → Moment → List ℕ → List ℕ
  trace_from_at zero p o w = w
  trace_from_at (suc n) p o w =
      let f = phase_at q (inputs p) o in
      pick (eqb f.number 0) (trace_from_at n (p + 1) f.after (written p (state_at f.after) w)) w

module _ (q : Plan) (st : State) (u : ℕ) (ns xs w : List ℕ) where
  unfoldable pub trace_at : Cycled
  trace_at = pick (has_room (rounds ns) w) (cycles_at q st u ns xs) (cycled 0 23 false st)

  unfoldable pub traced_at : List ℕ
  traced_at =
      pick (has_room (rounds ns) w)
      (pick (plan_fits q st)
      (pick (ltb u users)
      (pick (whole_rows ns xs) (trace_from_at q (row_inputs q.inputs ns xs) (rounds ns) 0 (laid_out q st u) w) w)
      w)
      w)
      w
