-- Many clock cycles in one call: rows of inputs, a cycle run for each row. It is defined by the single cycle runs, each handed the
-- registers and places that the last one gave back, up to the first that is refused.
use Rattle.std.specs.Prelude.{List, [], ◌∷◌, ◌++◌, ℕ, zero, suc, ◌+◌, ◌-◌, ◌*◌, ◌/◌, length, get_or, eqb}
use Rattle.values.specs.Values.{pick}
use Rattle.sheet.specs.Reading.{Res, ok, no}
use Rattle.sheet.specs.Expression.{Expr}
use Rattle.sheet.specs.Module.{Module}
use Rattle.state.specs.Rows.{list_of}
use Rattle.events.specs.declared.Inputs.{Inputs}
use Rattle.events.specs.Rows.{whole_rows}
use Rattle.nextstate.specs.declared.Registers.{Registers}
use Rattle.nextstate.specs.declared.Clocked.{Clocked}
use Rattle.nextstate.specs.Extraction.{Tables, right_lengths}
use Rattle.nextstate.specs.CycleRun.{tables_fit, tables_in, registers_fit, refused, extractable, cycle_run}
use Rattle.cycles.specs.declared.Cycled.{Cycled}

-- ---- rows of 16: item 0, the clock's, isn't looked at, item v + 1 is input item v of the cycle run

-- 15 items from a place on, and one more, which no sheet has an input for.
unfoldable pub items_from : List ℕ → ℕ → List ℕ
items_from ns i = list_of 15 (λ v. get_or ns (i + v) 0) ++ (0 ∷ [])

unfoldable pub inputs_from : ℕ → List ℕ → List ℕ → ℕ → Inputs
inputs_from inputs ns us i = record { count = inputs - 1; value = items_from ns i; unknown = items_from us i }

-- The inputs of row r, for a sheet of so many.
unfoldable pub row_inputs : ℕ → List ℕ → List ℕ → ℕ → Inputs
row_inputs inputs ns us r = inputs_from inputs ns us (16 * r + 1)

-- ---- the cycle runs

-- The registers and places that a cycle run gave.
unfoldable pub registers_of : Clocked → Registers
registers_of c = record { value = c.value; unknown = c.unknown; places = c.places }

-- After so many cycles, of which the last gave c, the next is refused by number n; or there is no next, and n is 0.
unfoldable pub ended : ℕ → ℕ → Clocked → Cycled
ended r n c =
    record {
      cycles = r;
      number = n;
      value = c.value;
      unknown = c.unknown;
      places = c.places;
      wire = c.wire;
      unsure = c.unsure;
    }

module _ (call : Registers → Inputs → Clocked) (inputs : ℕ → Inputs) where
  -- From row r on, n of them, where the cycle before gave c.
  unfoldable pub cycles_from : ℕ → ℕ → Clocked → Cycled
  cycles_from zero r c = ended r 0 c
  cycles_from (suc n) r c =
      let d = call (registers_of c) (inputs r) in
      pick (eqb d.number 0) (cycles_from n (r + 1) d) (ended r d.number c)

-- ---- the call: "Cycle run: 23, 1 to 21, 24, 31, 25." A sheet, tables, registers or rows that are refused are refused at once.

abbrev pub at_once : ℕ → Registers → Cycled
at_once n g = ended 0 n (refused n g)

module _ (call : Registers → Inputs → Clocked) (g : Registers) (value unknown : List ℕ) where
  -- Before the first cycle the registers and places are as handed, and the wires x.
  unfoldable pub cycles_of : ℕ → Cycled
  cycles_of inputs = cycles_from call (row_inputs inputs value unknown) (length value / 16) 0 (refused 0 g)

  -- ".. 24, 31, 25": rows that aren't whole are input values of wrong number, and no cycle is run.
  unfoldable pub cycles_in : Module Expr → Tables → Cycled
  cycles_in m T =
      pick (tables_fit m T)
      (pick (registers_fit m g)
      (pick (whole_rows value unknown) (cycles_of m.scope.inputs) (at_once 25 g))
      (at_once 31 g))
      (at_once 24 g)

  unfoldable pub cycles_or : Res (Module Expr) → Tables → Cycled
  cycles_or (ok m) T = cycles_in m T
  cycles_or (no n p) T = at_once n g

unfoldable pub cycles_run : List ℕ → List ℕ → List ℕ → Registers → List ℕ → List ℕ → Cycled
cycles_run s ns rs g value unknown =
    pick (right_lengths ns rs) (cycles_or (cycle_run s ns rs) g value unknown (extractable s) (tables_in ns rs)) (at_once 23 g)
