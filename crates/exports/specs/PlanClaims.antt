-- What is claimed of the calls on what was prepared, as C and Rust make them. On a plan that `walbryts_prepare` filled from a sheet that is
-- read, whatever it held before, each call answers and leaves what the call on the sheet does, so that specs/Refused speaks of these too;
-- a trace is what the single calls give. What is refused leaves all that is lent. proofs/PlanClaims has the proofs. (The calls on the four
-- tables of the cycle run are those of `clock_run`, and the crate cycles says in specs/Claims what they are on tables that are filled.)
use Rattle.std.specs.Prelude.{◌≡◌, ◌≢◌, true, false, List, ℕ, ◌*◌, ◌/◌, ltb, length}
use Rattle.std.proofs.Math.Option.{Option, none, some}
use Rattle.values.specs.Values.{pick}
use Rattle.values.specs.Cells.{small}
use Rattle.sheet.specs.Reading.{ok}
use Rattle.sheet.specs.Expression.{Expr}
use Rattle.sheet.specs.Module.{Module, read}
use Rattle.state.specs.declared.State.{State}
use Rattle.state.specs.State.{users}
use Rattle.saved.specs.Saved.{Bytes, saved, loaded}
use Rattle.events.specs.declared.Inputs.{Inputs}
use Rattle.events.specs.declared.Chosen.{Chosen}
use Rattle.events.specs.Calls.{start, choose, run_list, run_plain, instant, input_of}
use Rattle.events.specs.Rows.{whole_rows}
use Rattle.batch.specs.Cycles.{run_cycles}
use Rattle.plan.specs.Plan.{Plan, Node, plan_of}
use Rattle.plan_fitting.specs.Fitting.{plan_fits}
use Rattle.prepared.specs.Prepared.{prepared_plan, start_at, choose_at, run_at, plain_at, instant_at}
use Rattle.prepared_cycles.specs.Phases.{cycles_at}
use Rattle.prepared_cycles.specs.Traces.{rounds, has_room, trace_cycles, traced_cycles, trace_at, traced_at}
use Rattle.nextstate.specs.declared.Registers.{Registers}
use Rattle.nextstate.specs.CycleRun.{refused}
use Rattle.clock_run.specs.Running.{registers_fit_on, cycle_on}
use Rattle.clock_run.specs.Rounds.{ended_at}
use Rattle.clock_run.specs.Traces.{traced, trace_on}
use Rattle.cycles.specs.Preparing.{Filled, prepared_number, prepared}
use Rattle.exports.specs.Exports.{number_of}
use Rattle.exports.specs.Clocked.{Arrays, after_cycle}
use Rattle.exports.specs.Saved.{started_in, number_on, bytes_on, told_on, ran, rested, verdict_on, cycled_as}
use Rattle.exports.specs.Plans.{number_at, verdict_at, cycled_at, untraced, trace_number}

-- ---- a call on a plan beside one on a sheet, from the same bytes: number and bytes; and what else they tell

abbrev pub Alike : List ℕ → List ℕ → (State → Chosen) → (State → Chosen) → Type 0
Alike s b f g = (number_at (loaded b) f ≡ number_on s (loaded b) g) × (bytes_on b (loaded b) f ≡ bytes_on b (loaded b) g)

abbrev pub Tell : {A : Type 0} → List ℕ → A → (State → A) → (State → A) → Type 0
Tell b nothing f g = told_on nothing (loaded b) f ≡ told_on nothing (loaded b) g

-- ---- choices, runs, instants, cycles

pub record Same (s : List ℕ) (q : Plan) (b : List ℕ) : Type 0 where
  pub start : (allowances : List ℕ) → saved (start_at q allowances) ≡ started_in b (start s allowances)
  pub choose : (u c : ℕ) → Alike s b (λ st. choose_at q st u c) (λ st. choose s st u c)
  pub run : (u : ℕ) (cs : List ℕ) → Alike s b (λ st. ran (run_at q st u cs)) (λ st. ran (run_list s st u cs))
  pub run-told : (u : ℕ) (cs : List ℕ) → Tell b 0 (λ st. (run_at q st u cs).accepted) (λ st. (run_list s st u cs).accepted)
  pub plain : (u n : ℕ) →
      verdict_at (loaded b) (λ st. plain_at q st u n) ≡ verdict_on s (loaded b) (λ st. run_plain s st u n)
  pub plain-left : (u n : ℕ) →
      bytes_on b (loaded b) (λ st. rested (plain_at q st u n)) ≡ bytes_on b (loaded b) (λ st. rested (run_plain s st u n))
  pub plain-told : (u n : ℕ) → Tell b 0 (λ st. (plain_at q st u n).accepted) (λ st. (run_plain s st u n).accepted)
  -- Inputs and their marks are numbers of 32 bits, as every caller's are.
  pub instant : (a : Inputs) → ((v : ℕ) → small (input_of a v) ≡ true) → Alike s b (λ st. instant_at q st a) (λ st. instant s st a)
  pub cycles : (u : ℕ) (ns xs : List ℕ) →
      Alike s b (λ st. cycled_at (cycles_at q st u ns xs)) (λ st. cycled_as (run_cycles s st u ns xs))
  pub phases : (u : ℕ) (ns xs : List ℕ) → Tell b 0 (λ st. (cycles_at q st u ns xs).phases) (λ st. (run_cycles s st u ns xs).phases)
  pub running : (u : ℕ) (ns xs : List ℕ) →
      Tell b false (λ st. (cycles_at q st u ns xs).running) (λ st. (run_cycles s st u ns xs).running)

-- ---- traces: what they answer, the bytes and the words that they leave

pub record SameTrace (s : List ℕ) (q : Plan) (b : List ℕ) (u : ℕ) (ns xs w : List ℕ) : Type 0 where
  pub number :
      trace_number (loaded b) ns w (λ st. trace_at q st u ns xs w) ≡ trace_number (loaded b) ns w (λ st. trace_cycles s st u ns xs w)
  pub bytes :
      bytes_on b (loaded b) (λ st. cycled_at (trace_at q st u ns xs w))
      ≡ bytes_on b (loaded b) (λ st. cycled_at (trace_cycles s st u ns xs w))
  pub words : Tell b w (λ st. traced_at q st u ns xs w) (λ st. traced_cycles s st u ns xs w)
  pub phases : Tell b 0 (λ st. (trace_at q st u ns xs w).phases) (λ st. (trace_cycles s st u ns xs w).phases)
  pub running : Tell b false (λ st. (trace_at q st u ns xs w).running) (λ st. (trace_cycles s st u ns xs w).running)

unfoldable pub OnTheSheet : Type 0
OnTheSheet =
    (s ws : List ℕ) (m : Module Expr) → read s ≡ ok m → length ws ≡ 25212 → (b : List ℕ) → Bytes b →
    Same s (plan_of (prepared_plan s ws)) b
    × ((u : ℕ) (ns xs w : List ℕ) → SameTrace s (plan_of (prepared_plan s ws)) b u ns xs w)

-- ---- what is refused

abbrev pub PrepareKeeps : Type 0
PrepareKeeps = (s ws : List ℕ) → number_of (read s) ≢ 0 → prepared_plan s ws ≡ ws

-- The number that refuses a trace as a call, 0 where none does: 23, 31, 46, 25. For plans of any contents.
unfoldable pub trace_refused : Plan → Option State → ℕ → List ℕ → List ℕ → List ℕ → ℕ
trace_refused q none u ns xs w = untraced ns w
trace_refused q (some st) u ns xs w =
    pick (has_room (rounds ns) w) (pick (plan_fits q st) (pick (ltb u users) (pick (whole_rows ns xs) 0 25) 46) 31) 23

abbrev pub TraceKeeps : Type 0
TraceKeeps =
    (q : Plan) (b : List ℕ) (u : ℕ) (ns xs w : List ℕ) → Bytes b → trace_refused q (loaded b) u ns xs w ≢ 0 →
    (trace_number (loaded b) ns w (λ st. trace_at q st u ns xs w) ≡ trace_refused q (loaded b) u ns xs w)
    × (bytes_on b (loaded b) (λ st. cycled_at (trace_at q st u ns xs w)) ≡ b)
    × (told_on w (loaded b) (λ st. traced_at q st u ns xs w) ≡ w)
    × (told_on 0 (loaded b) (λ st. (trace_at q st u ns xs w).phases) ≡ 0)

abbrev pub ClockPrepareKeeps : Type 0
ClockPrepareKeeps = (s ns rs : List ℕ) (t : Filled) → prepared_number s ns rs ≢ 0 → prepared s ns rs t ≡ t

abbrev pub ClockCycleKeeps : Type 0
ClockCycleKeeps =
    (q : Plan) (f : ℕ → Node) (ts numbers : List ℕ) (g : Registers) (a : Inputs) (lent : Arrays) →
    (cycle_on q f ts numbers g a).number ≢ 0 → after_cycle lent (cycle_on q f ts numbers g a) ≡ lent

-- 23, 31, 25 of a trace by expressions: no cycle was accepted, and the words stay.
unfoldable pub clock_trace_refused : Plan → Registers → List ℕ → List ℕ → List ℕ → ℕ
clock_trace_refused q g ns us w =
    pick (ltb (length w / 88) (2 * (length ns / 16))) 23 (pick (registers_fit_on q g) (pick (whole_rows ns us) 0 25) 31)

abbrev pub ClockTraceKeeps : Type 0
ClockTraceKeeps =
    (q : Plan) (f : ℕ → Node) (ts numbers : List ℕ) (g : Registers) (ns us w : List ℕ) → clock_trace_refused q g ns us w ≢ 0 →
    trace_on q f ts numbers g ns us w
    ≡ traced (ended_at 0 (clock_trace_refused q g ns us w) (refused (clock_trace_refused q g ns us w) g)) w
