-- Phases on a plan, and on a state as it lies in cells, places and masks: an instant and the plain run after it, and one phase after the
-- other up to the first that is stopped. Defined for plans of any contents; proofs/Courses says that on a plan that holds a module and
-- from a state that fits these are the single calls.
use Rattle.std.specs.Prelude.{ℕ, zero, suc, ◌+◌, ◌*◌, ◌/◌, Bool, false, not, List, ltb, eqb, length}
use Rattle.values.specs.Values.{pick}
use Rattle.state.specs.declared.Counters.{Counters}
use Rattle.state.specs.declared.State.{State}
use Rattle.state.specs.State.{full, users}
use Rattle.events.specs.declared.Inputs.{Inputs}
use Rattle.events.specs.Calls.{input_of}
use Rattle.events.specs.Rows.{whole_rows}
use Rattle.plan.specs.Plan.{Plan}
use Rattle.plan_engine.specs.Live.{Live, live}
use Rattle.plan_engine.specs.Acting.{feed}
use Rattle.plan_engine.specs.Running.{Run, run_plain, busy}
use Rattle.plan_state.specs.Packing.{unpacked, packed}
use Rattle.plan_fitting.specs.Fitting.{plan_fits, plan_inputs_fit}
use Rattle.prepared.specs.Prepared.{room_in, raised, later}
use Rattle.prepared_cycles.specs.declared.Cycled.{Cycled}
use Rattle.prepared_cycles.specs.declared.Standing.{Standing}
use Rattle.prepared_cycles.specs.Cycles.{cycled, row_inputs}

-- ---- a moment: what a choice works on, with the counters and the user whose choices are run

pub record Moment : Type 0 where
  pub left : Live
  pub counters : Counters
  pub user : ℕ

abbrev pub moment : Live → Counters → ℕ → Moment
moment l c u = record { left = l; counters = c; user = u }

-- As the code keeps it.
abbrev pub moment_of : List ℕ → List ℕ → List ℕ → Standing → Moment
moment_of cs ns ps s = moment (live cs ns ps s.marks) s.counters s.user

-- A state laid out, for a user.
unfoldable pub laid_out : Plan → State → ℕ → Moment
laid_out q st u = moment (unpacked q st) st.counters u

-- The choices that the user's allowance has left.
abbrev pub room_at : Moment → ℕ
room_at o = room_in o.counters o.user

-- The state packed again.
abbrev pub state_at : Moment → State
state_at o = packed o.left o.counters

-- ---- a phase

-- The number that stopped it, 0 where none did, and whether a run was; what it leaves.
pub record Phase : Type 0 where
  pub number : ℕ
  pub running : Bool
  pub after : Moment

abbrev pub phase : ℕ → Bool → Moment → Phase
phase n running o = record { number = n; running = running; after = o }

module _ (q : Plan) where
  -- The number of an instant, 0 where it is accepted: "25, 32, 36".
  unfoldable pub refusal_at : Inputs → Moment → ℕ
  refusal_at a o = pick (plan_inputs_fit q a) (pick (busy o.left) 32 (pick (eqb o.counters.time full) 36 0)) 25

  -- The plain run after an instant.
  abbrev pub run_after : Inputs → Moment → Run
  run_after a o = run_plain q 65535 (room_at o) (feed q (input_of a) o.left)

  unfoldable pub phase_at : Inputs → Moment → Phase
  phase_at a o =
      let n = refusal_at a o in
      let r = run_after a o in
      pick (eqb n 0)
      (phase r.number (not (eqb r.number 0)) (moment r.left (raised r.accepted o.user (later o.counters)) o.user))
      (phase n false o)

-- ---- phases, from instant number p on, n of them

-- How many were accepted and run; the number that stopped them, and whether a run was; what they leave.
pub record Course : Type 0 where
  pub phases : ℕ
  pub number : ℕ
  pub running : Bool
  pub after : Moment

abbrev pub course : ℕ → ℕ → Bool → Moment → Course
course p n running o = record { phases = p; number = n; running = running; after = o }

module _ (q : Plan) (inputs : ℕ → Inputs) where
  unfoldable pub phases_at : ℕ → ℕ → Moment → Course
  phases_at zero p o = course p 0 false o
  phases_at (suc n) p o =
      let f = phase_at q (inputs p) o in
      pick (eqb f.number 0) (phases_at n (p + 1) f.after) (course p f.number f.running f.after)

-- ---- run_cycles

-- Where they end.
unfoldable pub ended : Course → Cycled
ended c = cycled c.phases c.number c.running (state_at c.after)

-- "31", a user above 3, 25, and then instant by instant.
unfoldable pub cycles_at : Plan → State → ℕ → List ℕ → List ℕ → Cycled
cycles_at q st u ns xs =
    pick (plan_fits q st)
    (pick (ltb u users)
    (pick (whole_rows ns xs) (ended (phases_at q (row_inputs q.inputs ns xs) (2 * (length ns / 16)) 0 (laid_out q st u)))
    (cycled 0 25 false st))
    (cycled 0 46 false st))
    (cycled 0 31 false st)
