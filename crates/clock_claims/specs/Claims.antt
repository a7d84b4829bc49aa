-- What is claimed of cycles on tables that are filled: on the plan of a module, with tables filled from lent ones that fit, a cycle is
-- document 01's cycle run, and many of them are cycle run after cycle run. proofs/Claims shows it.
use Rattle.std.specs.Prelude.{◌≡◌, true, false, List, [], ℕ, ◌+◌, ◌-◌, ◌*◌, ◌/◌, ◌≤◌, ◌<◌, ltb, length, get_or}
use Rattle.values.specs.Values.{pick}
use Rattle.values.specs.Planes.{value_at}
use Rattle.values.specs.Cells.{small}
use Rattle.sheet.specs.Expression.{Expr}
use Rattle.sheet.specs.Module.{Module}
use Rattle.masks.specs.Masks.{bits}
use Rattle.state.specs.Rows.{list_of}
use Rattle.soundness.specs.Soundness.{Sound}
use Rattle.events.specs.declared.Inputs.{Inputs}
use Rattle.events.specs.Calls.{input_of}
use Rattle.events.specs.Rows.{whole_rows}
use Rattle.plan.specs.Plan as plan
use Rattle.plan_fill.specs.Holding.{Holds}
use Rattle.nextstate.specs.declared.Registers.{Registers}
use Rattle.nextstate.specs.Rules.{writes, waits_below}
use Rattle.nextstate.specs.Nodes.{node_at}
use Rattle.nextstate.specs.CycleRun.{widths_from, tables_fit, tables_in, registers_fit, refused, clocked_in}
use Rattle.nextstate.specs.Ruled.{Ruled}
use Rattle.clock_nodes.specs.Copying.{copy_all, low_all}
use Rattle.clock_steps.specs.Numbers.{number_rows, fill_rows}
use Rattle.clock_nodes.specs.Reach.{Counted}
use Rattle.clock_steps.specs.Claims.{Room}
use Rattle.clock_run.specs.Running.{cycle_on}
use Rattle.clock_run.specs.Traces.{traced, trace_on}
use Rattle.clock_run.specs.Rounds.{ended_at, row_at, cycles_on, repeat_from}
use Rattle.clock_claims.specs.Traced.{repeat_trace}

-- Registers as every caller has them: 32 numbers of 32 bits with their marks, and eight places.
pub record Whole (g : Registers) : Type 0 where
  pub numbers : length g.value ≡ 32
  pub marks : length g.unknown ≡ 32
  pub eight : length g.places ≡ 8
  pub words : (r : ℕ) → small (value_at g.value g.unknown r) ≡ true

-- Lent tables that passed number 24's test, with their nodes' widths and the registers that each thread writes; rule 20 held.
pub record Ready (m : Module Expr) (ns us rs written : List ℕ) : Type 0 where
  pub fit : tables_fit m (tables_in ns rs) ≡ true
  pub sizes : us ≡ widths_from m (list_of 4096 (node_at ns)) []
  pub few : waits_below m (length m.threads) ≤ 32
  pub writers : (i r : ℕ) → i < length m.threads → get_or (bits (get_or written i 0)) r false ≡ writes m i (m.scope.inputs + r)

unfoldable pub CycleIsTheRun : Type 0
CycleIsTheRun =
    (m : Module Expr) → Sound m → (q : plan.Plan) → Holds m q → (ns us rs written : List ℕ) → Ready m ns us rs written →
    (count : ℕ) → Counted rs count → (ws ls ts ms : List ℕ) → Room ws ls ts ms → (g : Registers) → Whole g → (a : Inputs) →
    cycle_on q (plan.node_at (copy_all ns us count ws)) (fill_rows ns (low_all ns count ls) rs q written ts) (number_rows q ms) g a
    ≡ clocked_in m (tables_in ns rs) g a

-- ---- many cycles

-- The inputs of each row, as a single cycle run is given them.
pub record RowInputs (m : Module Expr) (vs xs : List ℕ) (inputs : ℕ → Inputs) : Type 0 where
  pub count : (r : ℕ) → (inputs r).count + 1 ≡ m.scope.inputs
  pub item : (r v : ℕ) → r < length vs / 16 → v < m.scope.inputs - 1 → input_of (inputs r) v ≡ value_at vs xs (row_at r + v)

-- Before the first cycle the registers and places are as handed, and the wires x.
unfoldable pub CyclesAreTheRuns : Type 0
CyclesAreTheRuns =
    (m : Module Expr) → Sound m → Ruled m → (q : plan.Plan) → Holds m q → (ns us rs written : List ℕ) → Ready m ns us rs written →
    (count : ℕ) → Counted rs count → (ws ls ts ms : List ℕ) → Room ws ls ts ms → (g : Registers) → Whole g →
    (vs xs : List ℕ) (inputs : ℕ → Inputs) → (whole_rows vs xs ≡ true → RowInputs m vs xs inputs) →
    cycles_on q (plan.node_at (copy_all ns us count ws)) (fill_rows ns (low_all ns count ls) rs q written ts) (number_rows q ms) g vs xs
    ≡ pick (registers_fit m g)
    (pick (whole_rows vs xs) (repeat_from (clocked_in m (tables_in ns rs)) inputs (length vs / 16) 0 (refused 0 g))
    (ended_at 0 25 (refused 25 g)))
    (ended_at 0 31 (refused 31 g))

-- With the two rows of each cycle: the low one has the inputs, the clock 0, registers and places as before and the wires settled, the high
-- one the inputs, the clock 1 and exactly what the cycle run gives.
unfoldable pub TraceIsTheRuns : Type 0
TraceIsTheRuns =
    (m : Module Expr) → Sound m → Ruled m → (q : plan.Plan) → Holds m q → (ns us rs written : List ℕ) → Ready m ns us rs written →
    (count : ℕ) → Counted rs count → (ws ls ts ms : List ℕ) → Room ws ls ts ms → (g : Registers) → Whole g →
    (vs xs : List ℕ) (inputs : ℕ → Inputs) → (whole_rows vs xs ≡ true → RowInputs m vs xs inputs) → (out : List ℕ) →
    trace_on q (plan.node_at (copy_all ns us count ws)) (fill_rows ns (low_all ns count ls) rs q written ts) (number_rows q ms) g vs xs out
    ≡ pick (ltb (length out / 88) (2 * (length vs / 16))) (traced (ended_at 0 23 (refused 23 g)) out)
    (pick (registers_fit m g)
    (pick (whole_rows vs xs) (repeat_trace m (clocked_in m (tables_in ns rs)) inputs (length vs / 16) 0 (refused 0 g) out)
    (traced (ended_at 0 25 (refused 25 g)) out))
    (traced (ended_at 0 31 (refused 31 g)) out))
