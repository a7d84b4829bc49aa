-- A clock cycle on a plan and on tables that are filled (document 01, "Extraction and the cycle run"): registers and inputs are
-- judged, laid out in a plane of cells, and registers, places and wires taken out again. Defined for plans and tables of any contents.
use Rattle.std.specs.Prelude.{Bool, ◌&&◌, List, ℕ, zero, suc, ◌+◌, ◌-◌, ltb, eqb, get_or, set, replicate}
use Rattle.values.specs.Values.{pick, ones, fits}
use Rattle.values.specs.Planes.{value_at, number_of, marks_of}
use Rattle.state.specs.Rows.{all_below}
use Rattle.events.specs.declared.Inputs.{Inputs}
use Rattle.values.specs.Cells.{cell_of, cell_at}
use Rattle.plan.specs.Plan.{Node, Plan}
use Rattle.nextstate.specs.declared.Registers.{Registers}
use Rattle.nextstate.specs.declared.Clocked.{Clocked}
use Rattle.nextstate.specs.CycleRun.{refused}
use Rattle.clock_steps.specs.Settling.{put_cell, settle}
use Rattle.clock_steps.specs.Taking.{Stand, stand, at_most, rise}

-- ---- 31 and 25

-- The first n values from place `at` on fit the widths of the variables from `from` on.
unfoldable pub values_fit : Plan → ℕ → List ℕ → List ℕ → ℕ → ℕ → Bool
values_fit q from ns xs at n = all_below n (λ v. fits (q.width (from + v)) (value_at ns xs (at + v)))

module _ (q : Plan) where
  -- p is a place of thread i, and a wait.
  unfoldable pub waits_at : ℕ → ℕ → Bool
  waits_at i p = ltb p (q.size i) && q.waits i p

  unfoldable pub places_wait : List ℕ → Bool
  places_wait ps = all_below (at_most 8 q.threads) (λ i. waits_at i (get_or ps i 0))

  -- How many inputs a cycle takes: all but the clock. A module has 16 at most.
  unfoldable pub upper_of : ℕ
  upper_of = at_most 15 (q.inputs - 1)

  -- "value .. too wide; place outside its thread or, for a cycle run, no wait"
  unfoldable pub registers_fit_on : Registers → Bool
  registers_fit_on g = values_fit q q.inputs g.value g.unknown 0 q.registers && places_wait g.places

  -- "25 input values of wrong number or too wide."
  unfoldable pub inputs_fit_on : Inputs → Bool
  inputs_fit_on a = eqb (a.count + 1) q.inputs && values_fit q 1 a.value a.unknown 0 upper_of

-- ---- values into cells

-- A cell that nothing was put into: that of `nowhere`, 0 with 32 marks.
abbrev pub blank : ℕ
blank = 18446744069414584320

-- The first n values from place `at` on, into the cells of the variables from `first` on.
unfoldable pub put_values : List ℕ → List ℕ → ℕ → ℕ → ℕ → List ℕ → List ℕ
put_values ns us first at zero cs = cs
put_values ns us first at (suc v) cs = put_cell (first + v) (cell_of (value_at ns us (at + v))) (put_values ns us first at v cs)

-- The registers. "The clock's node counts as 1".
unfoldable pub hand_on : Plan → Registers → List ℕ → List ℕ
hand_on q g cs = put_cell 0 1 (put_values g.value g.unknown q.inputs 0 (at_most 32 q.registers) cs)

-- ---- and out again: n of them from variable `first` on

unfoldable pub numbers_to : List ℕ → ℕ → ℕ → List ℕ → List ℕ
numbers_to cs first zero ns = ns
numbers_to cs first (suc r) ns = set (numbers_to cs first r ns) r (number_of (cell_at cs (first + r)))

unfoldable pub marks_to : List ℕ → ℕ → ℕ → List ℕ → List ℕ
marks_to cs first zero us = us
marks_to cs first (suc r) us = set (marks_to cs first r us) r (marks_of (cell_at cs (first + r)))

-- ---- a cycle

-- "and gives registers, places and wires"
unfoldable pub answer_on : Plan → Registers → Stand → Clocked
answer_on q g b =
    record {
      number = 0;
      value = numbers_to b.cells q.inputs (at_most 32 q.registers) g.value;
      unknown = marks_to b.cells q.inputs (at_most 32 q.registers) g.unknown;
      places = b.places;
      wire = numbers_to b.cells (q.inputs + q.registers) (at_most 32 q.wires) (replicate 32 0);
      unsure = marks_to b.cells (q.inputs + q.registers) (at_most 32 q.wires) (replicate 32 (ones 32));
    }

module _ (q : Plan) (f : ℕ → Node) (ts numbers : List ℕ) where
  -- "It settles wires, takes the row of each thread's wait for the registers it writes"
  unfoldable pub turn_on : Stand → Stand
  turn_on b = rise q f ts numbers (stand (settle q b.cells) b.places)

  -- ", settles wires again".
  unfoldable pub settled_on : Stand → Stand
  settled_on b = stand (settle q b.cells) b.places

  unfoldable pub clocked_on : Registers → Inputs → Clocked
  clocked_on g a =
      answer_on q g
      (settled_on (turn_on (stand (put_values a.value a.unknown 1 0 (upper_of q) (hand_on q g (replicate 4176 blank))) g.places)))

  unfoldable pub cycle_on : Registers → Inputs → Clocked
  cycle_on g a = pick (registers_fit_on q g) (pick (inputs_fit_on q a) (clocked_on g a) (refused 25 g)) (refused 31 g)
