-- A sheet prepared once, and the calls on its plan: a state is judged, laid out in cells and masks, run and packed again. Defined for plans
-- of any contents; proofs/Calls says that on a plan that holds a module these are document 01's calls.
use Rattle.std.specs.Prelude.{ℕ, ◌+◌, ◌-◌, List, get_or, set, ltb, leb, eqb}
use Rattle.values.specs.Values.{pick}
use Rattle.sheet.specs.declared.SheetRead.{SheetRead}
use Rattle.sheet.specs.Expression.{located}
use Rattle.sheet.specs.Module.{read_sheet}
use Rattle.sheet.specs.Answers.{sheet_answer}
use Rattle.state.specs.declared.Counters.{Counters}
use Rattle.state.specs.declared.State.{State}
use Rattle.state.specs.State.{counters_of, users}
use Rattle.state.specs.Rows.{list_of}
use Rattle.events.specs.declared.Inputs.{Inputs}
use Rattle.events.specs.declared.Chosen.{Chosen}
use Rattle.events.specs.declared.Ran.{Ran}
use Rattle.events.specs.declared.Verdict.{Verdict}
use Rattle.events.specs.declared.Verdict.TheVariants.{Quiet, Spent, Stopped, Refused}
use Rattle.events.specs.declared.Rested.{Rested}
use Rattle.events.specs.Calls.{started, spend_time, answer, input_of}
use Rattle.plan.specs.Plan.{Plan}
use Rattle.plan_engine.specs.Live.{Live}
use Rattle.plan_engine.specs.Acting.{feed}
use Rattle.plan_engine.specs.Taking.{take_choice}
use Rattle.plan_engine.specs.Running.{run_list, run_plain, busy}
use Rattle.plan_state.specs.Packing.{unpacked, packed}
use Rattle.plan_fill.specs.Filling.{filled_plan}
use Rattle.plan_fitting.specs.Fitting.{plan_fits, plan_inputs_fit}

-- ---- prepare: the plan of an accepted sheet is filled; of a refused one it stays

abbrev pub read_of : List ℕ → SheetRead
read_of s = sheet_answer (read_sheet (located s) s)

unfoldable pub prepared_plan : List ℕ → List ℕ → List ℕ
prepared_plan s ws = pick (eqb (read_of s).number 0) (filled_plan s (read_of s).layout ws) ws

-- ---- start

-- The widths of the plan's variables.
unfoldable pub widths_of : Plan → List ℕ
widths_of q = list_of (q.inputs + q.registers + q.wires) q.width

unfoldable pub start_at : Plan → List ℕ → State
start_at q allowances = started (widths_of q) q.wires allowances

-- ---- counting: "Each accepted choice names its user, 0 to 3, and is counted for that user alone"

-- The choices that user u's allowance has left.
abbrev pub room_in : Counters → ℕ → ℕ
room_in c u = get_or c.allowances u 0 - get_or c.counts u 0

-- n more accepted choices of user u, where his allowance has so many left.
unfoldable pub raised : ℕ → ℕ → Counters → Counters
raised n u c =
    pick (leb n (room_in c u)) (counters_of c.time (set c.counts u (get_or c.counts u 0 + n)) c.allowances) c

-- A choice that was answered by 0 was accepted.
unfoldable pub accepted : ℕ → ℕ
accepted number = pick (eqb number 0) 1 0

-- ---- the calls

-- The number of a choice whose user is above 3: "a user above 3 (46), after 22".
unfoldable pub userless : Plan → ℕ → ℕ
userless q c = pick (ltb c (q.threads + q.wires)) 46 (pick (eqb c 255) 46 22)

-- A run that no number stopped came to rest, or was spent.
unfoldable pub verdict_of : ℕ → Live → Verdict
verdict_of n l = pick (eqb n 0) (pick (busy l) Spent Quiet) (Stopped n)

module _ (q : Plan) (st : State) (u : ℕ) where
  unfoldable pub choose_at : ℕ → Chosen
  choose_at c =
      let t = take_choice q (room_in st.counters u) c (unpacked q st) in
      pick (plan_fits q st)
      (pick (ltb u users)
      (record { number = t.number; state = packed t.left (raised (accepted t.number) u st.counters) })
      (record { number = userless q c; state = st }))
      (record { number = 31; state = st })

  unfoldable pub run_at : List ℕ → Ran
  run_at cs =
      let t = run_list q cs (room_in st.counters u) (unpacked q st) in
      pick (plan_fits q st)
      (pick (ltb u users)
      (record { accepted = t.accepted; number = t.number; state = packed t.left (raised t.accepted u st.counters) })
      (record { accepted = 0; number = 46; state = st }))
      (record { accepted = 0; number = 31; state = st })

  unfoldable pub plain_at : ℕ → Rested
  plain_at n =
      let t = run_plain q n (room_in st.counters u) (unpacked q st) in
      pick (plan_fits q st)
      (pick (ltb u users)
      (record {
        accepted = t.accepted;
        verdict = verdict_of t.number t.left;
        state = packed t.left (raised t.accepted u st.counters);
      })
      (record { accepted = 0; verdict = Refused 46; state = st }))
      (record { accepted = 0; verdict = Refused 31; state = st })

-- The time one further.
abbrev pub later : Counters → Counters
later c = counters_of (c.time + 1) c.counts c.allowances

module _ (q : Plan) (st : State) where
  -- The number of an instant on a state that fits, 0 where it is accepted.
  unfoldable pub instant_number : Inputs → ℕ
  instant_number a = pick (plan_inputs_fit q a) (pick (busy (unpacked q st)) 32 (spend_time st)) 25

  -- The inputs put, as one change, and the time one further.
  unfoldable pub fed_at : Inputs → State
  fed_at a = packed (feed q (input_of a) (unpacked q st)) (later st.counters)

  unfoldable pub instant_at : Inputs → Chosen
  instant_at a = pick (plan_fits q st) (answer (instant_number a) st (fed_at a)) (record { number = 31; state = st })
