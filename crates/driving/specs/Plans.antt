-- A module driven through clock cycles on its plan by one user, by the way of the run: from the start to rest, and rows of inputs, two
-- instants each, each run to rest (`prepared_cycles`). Defined for plans of any contents; specs/Claims says what they are on an accepted
-- sheet.
use Rattle.std.specs.Prelude.{Bool, true, false, List, ℕ, ◌+◌, length, get_or, ltb}
use Rattle.values.specs.Values.{pick, ◌is◌then◌else◌}
use Rattle.values.specs.Planes.{value_at}
use Rattle.values.specs.Cells.{cell_of}
use Rattle.state.specs.declared.State.{State}
use Rattle.state.specs.Rows.{list_of}
use Rattle.events.specs.Calls.{spend, start, due_below}
use Rattle.nextstate.specs.declared.Registers.{Registers}
use Rattle.options.specs.declared.Way.{Way}
use Rattle.options.specs.declared.Way.TheVariants.{Plain, Drawn, Expressed, Counted}
use Rattle.plan.specs.Plan.{Plan}
use Rattle.prepared.specs.Prepared.{start_at}
use Rattle.prepared_cycles.specs.declared.Driven.{Driven}
use Rattle.prepared_cycles.specs.Drives.{settled, drive_cycles, driven_cycles, settled_at, drive_at, driven_at}
use Rattle.driving.specs.declared.Rest.{Rest}
use Rattle.driving.specs.declared.Traced.{Traced}

abbrev pub rest : Way → ℕ → Bool → State → ℕ → Rest
rest way number rested st seed = record { way = way; number = number; rested = rested; state = st; seed = seed }

-- ---- the way of a run

-- The seed that choices are drawn by.
unfoldable pub seed_of : Way → ℕ
seed_of Plain = 0
seed_of (Drawn n) = n
seed_of Expressed = 0
seed_of Counted = 0

-- Are its choices drawn? Events go by the plain run else, also before and beside the expressions.
unfoldable pub is_drawn : Way → Bool
is_drawn Plain = false
is_drawn (Drawn n) = true
is_drawn Expressed = false
is_drawn Counted = false

-- The number that stopped driven cycles: where a run is not at rest and its user's allowance is used up, that did (47).
unfoldable pub stopped_by : ℕ → Driven → ℕ
stopped_by u d = d.number is 0 then pick d.rested 0 (spend d.state u) else d.number

-- What driven cycles leave.
unfoldable pub rest_of : ℕ → Way → Driven → Rest
rest_of u way d = rest way (stopped_by u d) d.rested d.state d.seed

abbrev pub traced : ℕ → Rest → Traced
traced p r = record { phases = p; rest = r }

-- ---- on a plan

-- From a state to rest, as from the start or from one that was saved.
unfoldable pub resumed_at : Plan → State → ℕ → Way → Rest
resumed_at q st u way = rest_of u way (settled_at q (is_drawn way) (seed_of way) st u)

unfoldable pub begun_at : Plan → List ℕ → ℕ → Way → Rest
begun_at q allowances u way = resumed_at q (start_at q allowances) u way

-- A state whose registers were set: every wire is due, as at the start.
unfoldable pub unsettled_at : Plan → State → State
unsettled_at q st =
    record {
      value = st.value;
      unknown = st.unknown;
      pending = st.pending;
      unsure = st.unsure;
      held = st.held;
      places = st.places;
      due = due_below q.wires;
      counters = st.counters;
    }

module _ (q : Plan) (r : Rest) (u : ℕ) (ns xs w : List ℕ) where
  -- Where there is no row nothing is altered.
  unfoldable pub traced_at : Traced
  traced_at =
      let d = drive_at q (is_drawn r.way) r.seed r.state u ns xs w in
      pick (ltb (length ns) 16) (traced 0 r) (traced d.phases (rest_of u r.way d))

  -- What is left in what is lent.
  unfoldable pub rows_at : List ℕ
  rows_at = pick (ltb (length ns) 16) w (driven_at q (is_drawn r.way) r.seed r.state u ns xs w)

-- ---- the same by the single calls on a sheet

unfoldable pub resumed_on : List ℕ → State → ℕ → Way → Rest
resumed_on s st u way = rest_of u way (settled s (is_drawn way) (seed_of way) st u)

unfoldable pub begun_on : List ℕ → List ℕ → ℕ → Way → Rest
begun_on s allowances u way = resumed_on s (start s allowances).state u way

module _ (s : List ℕ) (r : Rest) (u : ℕ) (ns xs w : List ℕ) where
  unfoldable pub traced_on : Traced
  traced_on =
      let d = drive_cycles s (is_drawn r.way) r.seed r.state u ns xs w in
      pick (ltb (length ns) 16) (traced 0 r) (traced d.phases (rest_of u r.way d))

  unfoldable pub rows_on : List ℕ
  rows_on = pick (ltb (length ns) 16) w (driven_cycles s (is_drawn r.way) r.seed r.state u ns xs w)

-- ---- a state's parts

abbrev pub words_of : List ℕ → List ℕ → List ℕ
words_of ns us = list_of 80 (λ v. cell_of (value_at ns us v))

-- A state's registers and places, as a cycle run is handed them.
unfoldable pub registers_in : ℕ → State → Registers
registers_in inputs st =
    record {
      value = list_of 32 (λ r. get_or st.value (inputs + r) 0);
      unknown = list_of 32 (λ r. get_or st.unknown (inputs + r) 0);
      places = st.places;
    }
