-- How a state lies in one plane of cells, places and masks, and which plans belong to a module. proofs/ shows that the steps of
-- `plan_engine` on them are the steps of the simulation cycle.
use Rattle.std.specs.Prelude.{ℕ, ◌+◌, ◌<◌, ◌≤◌, ◌≡◌, Bool, true, false, List, length, get_or}
use Rattle.values.specs.declared.Value.{Value}
use Rattle.sheet.specs.declared.EdgeTerm.{EdgeTerm}
use Rattle.sheet.specs.Expression.{Expr}
use Rattle.sheet.specs.Module.{Module}
use Rattle.evaluation.specs.Evaluation.{eval, reads}
use Rattle.pseudocode.specs.Translation.{Instr, wait!, set!, later!, go, ifnot}
use Rattle.pseudocode.specs.Instruction.{no_term, terms_of}
use Rattle.state.specs.declared.State.{State}
use Rattle.state.specs.State.{count_of, allowance_of}
use Rattle.soundness.specs.Soundness.{Sound}
use Rattle.events.specs.Cycle.{code_of, instr_at, is_wait, wire_expr}
use Rattle.events.specs.declared.Chosen.{Chosen}
use Rattle.events.specs.declared.Ran.{Ran}
use Rattle.events.specs.declared.Rested.{Rested}
use Rattle.events.specs.Verdict.{number_of_verdict}
use Rattle.refinement.specs.Refinement.{ready_in}
use Rattle.values.specs.Cells as cell
use Rattle.values.specs.Cells.{cell_at}
use Rattle.plan.specs.declared.Expression.{Expression}
use Rattle.plan.specs.declared.Action.TheVariants.{Set, Later, Go, IfNot}
use Rattle.plan.specs.declared.Instruction.{Instruction}
use Rattle.plan.specs.declared.Instruction.TheVariants.{Wait, Act}
use Rattle.plan.specs.Plan.{Plan}
use Rattle.plan_changes.specs.Scene.{Scene}
use Rattle.plan_engine.specs.Live.{Live, scene_of, evaluate, worth}
use Rattle.plan_engine.specs.Taking.{Taken}
use Rattle.plan_engine.specs.Running.{Run}
use Rattle.plan_state.specs.Planes.{Planes}

-- ---- Seen, Shows: how a state lies in cells, places and marks, also what lies under an x. The cells past the 80 variables' are scratch.

-- The cells have these values.
abbrev pub Holds : List ℕ → (ℕ → Value) → Type 0
Holds cs f = (v : ℕ) → v < 80 → cell_at cs v ≡ f v

pub record Seen (m : Module Expr) (st : State) (s : Scene) : Type 0 where
  pub long : length s.cells ≡ 4176
  pub planes : Planes st.value st.unknown 80 s.cells
  pub places : s.places ≡ st.places
  pub due : s.due ≡ st.due
  pub ready : s.ready ≡ ready_in m st

pub record Slots (st : State) (ns : List ℕ) (hs : List Bool) : Type 0 where
  pub long : length ns ≡ 32
  pub planes : Planes st.pending st.unsure 32 ns
  pub held : hs ≡ st.held

pub record Shows (m : Module Expr) (st : State) (l : Live) : Type 0 where
  pub scene : Seen m st (scene_of l)
  pub slots : Slots st l.pending l.held

-- ---- Takes, Runs, Rests: a choice and a run on a plan answer as the simulation cycle does

pub record Takes (m : Module Expr) (r : Chosen) (t : Taken) : Type 0 where
  pub number : t.number ≡ r.number
  pub left : Shows m r.state t.left

pub record Runs (m : Module Expr) (r : Ran) (t : Run) : Type 0 where
  pub accepted : t.accepted ≡ r.accepted
  pub number : t.number ≡ r.number
  pub left : Shows m r.state t.left

pub record Rests (m : Module Expr) (r : Rested) (t : Run) : Type 0 where
  pub accepted : t.accepted ≡ r.accepted
  pub number : t.number ≡ number_of_verdict r.verdict
  pub left : Shows m r.state t.left

-- The room that is left beside user u's count, up to his allowance.
abbrev pub Room : ℕ → ℕ → State → Type 0
Room u room st = room + count_of st u ≡ allowance_of st u

-- ---- PlanOf: the plan of a module

-- What working an expression out leaves: its value in its root's cell, and the variables as they were.
pub record Worked (q : Plan) (e : Expr) (x : Expression) (cs : List ℕ) (f : ℕ → Value) : Type 0 where
  pub value : cell.value_of (worth q x cs) ≡ eval f e
  pub kept : (v : ℕ) → v < 80 → get_or (evaluate q x cs) v 0 ≡ get_or cs v 0
  pub long : length (evaluate q x cs) ≡ 4176

-- The expression e stands in the plan as x: it is worked out to its value, whatever the variables hold.
abbrev pub Stands : Plan → Expr → Expression → Type 0
Stands q e x = (cs : List ℕ) (f : ℕ → Value) → length cs ≡ 4176 → Holds cs f → Worked q e x cs f

-- An instruction of the translation, and the plan's one for it.
pub data Fetched (q : Plan) : Instr Expr → Instruction → Type 0 where
  a-wait : {ts : List EdgeTerm} → length ts ≤ 8 → Fetched q (wait! ts) (Wait (terms_of ts))
  a-set : {t : ℕ} {e : Expr} {x : Expression} → Stands q e x → Fetched q (set! t e) (Act (Set t x))
  a-later : {t : ℕ} {e : Expr} {x : Expression} → Stands q e x → Fetched q (later! t e) (Act (Later t x))
  a-go : {g : ℕ} → Fetched q (go g) (Act (Go g))
  an-ifnot : {g : ℕ} {e : Expr} {x : Expression} → Stands q e x → Fetched q (ifnot e g) (Act (IfNot g x))

pub record PlanOf (m : Module Expr) (q : Plan) : Type 0 where
  pub sound : Sound m
  pub inputs : q.inputs ≡ m.scope.inputs
  pub registers : q.registers ≡ m.scope.registers
  pub wires : q.wires ≡ length m.wires
  pub threads : q.threads ≡ length m.threads
  pub wire : (k : ℕ) → k < length m.wires → Stands q (wire_expr m k) (q.wire k)
  pub instruction : (i p : ℕ) → i < length m.threads → p < length (code_of m i)
      → Fetched q (instr_at (code_of m i) p) (q.instruction i p)
  pub waits : (i p : ℕ) → i < length m.threads → p < length (code_of m i) → q.waits i p ≡ is_wait (instr_at (code_of m i) p)
  -- Bit k of v's readers: does wire k read v?
  pub read_by : (v k : ℕ) → v < 80 → get_or (q.readers v) k false ≡ reads (wire_expr m k) v
  pub length-readers : (v : ℕ) → length (q.readers v) ≡ 32
  -- A thread watches what its waits name.
  pub named : (i p : ℕ) {ts : List EdgeTerm} (k : ℕ) → i < length m.threads → p < length (code_of m i)
      → instr_at (code_of m i) p ≡ wait! ts → k < length ts → get_or (q.watchers (get_or ts k no_term).variable) i false ≡ true
