-- The two rows of a cycle in a trace, told by the module and the cycle run: 88 words, the cells of 80 variables, then eight places.
use Rattle.std.specs.Prelude.{List, ℕ, zero, suc, ◌+◌, ◌-◌, ◌*◌, ltb, eqb, length, get_or}
use Rattle.values.specs.Values.{pick, known, nowhere}
use Rattle.values.specs.Planes.{value_at}
use Rattle.sheet.specs.Expression.{Expr}
use Rattle.sheet.specs.Module.{Module}
use Rattle.events.specs.declared.Inputs.{Inputs}
use Rattle.events.specs.Cycle.{wire_variable}
use Rattle.events.specs.Calls.{input_of}
use Rattle.values.specs.Cells.{cell_of}
use Rattle.nextstate.specs.declared.Registers.{Registers}
use Rattle.nextstate.specs.declared.Clocked.{Clocked}
use Rattle.nextstate.specs.Book.{Book, put, settled}
use Rattle.nextstate.specs.CycleRun.{handed}
use Rattle.clock_run.specs.Rounds.{ended_at, registers_of}
use Rattle.clock_run.specs.Traces.{Traced, traced, put_both}

module _ (m : Module Expr) where
  -- Word k, by the kinds of variable: the clock, inputs, registers and wires; past them x, and after 80 the places.
  unfoldable pub cycle_word : ℕ → Inputs → (ℕ → ℕ) → (ℕ → ℕ) → List ℕ → ℕ → ℕ
  cycle_word clock a register wire ps k =
      pick (eqb k 0) clock
      (pick (ltb k 80)
      (pick (ltb k m.scope.inputs) (cell_of (input_of a (k - 1)))
      (pick (ltb k (m.scope.inputs + m.scope.registers)) (register (k - m.scope.inputs))
      (pick (ltb k (m.scope.inputs + m.scope.registers + length m.wires)) (wire (k - (m.scope.inputs + m.scope.registers)))
      (cell_of nowhere))))
      (get_or ps (k - 80) 0))

  -- "With the clock 0, it takes the inputs and settles."
  unfoldable pub low_book : Registers → Inputs → Book
  low_book g a = settled m (record { values = put (handed m g a).values 0 (known 0); places = (handed m g a).places })

  -- The clock 0, registers and places as before the cycle, the wires settled on these and the inputs.
  unfoldable pub low_row : Registers → Inputs → ℕ → ℕ
  low_row g a =
      cycle_word 0 a (λ r. cell_of (value_at g.value g.unknown r))
      (λ w. cell_of ((low_book g a).values (wire_variable m w))) g.places

  -- The clock 1, and registers, wires and places that the cycle run c gave.
  unfoldable pub high_row : Clocked → Inputs → ℕ → ℕ
  high_row c a =
      cycle_word 1 a (λ r. cell_of (value_at c.value c.unknown r)) (λ w. cell_of (value_at c.wire c.unsure w)) c.places

  -- ---- cycle run after cycle run, with the rows of each: n of them from row r on, where the cycle before gave c

  module _ (call : Registers → Inputs → Clocked) (inputs : ℕ → Inputs) where
    unfoldable pub repeat_trace : ℕ → ℕ → Clocked → List ℕ → Traced
    repeat_trace zero r c ws = traced (ended_at r 0 c) ws
    repeat_trace (suc n) r c ws =
        let d = call (registers_of c) (inputs r) in
        pick (eqb d.number 0)
        (repeat_trace n (r + 1) d (put_both (low_row (registers_of c) (inputs r)) (high_row d (inputs r)) (176 * r) ws))
        (traced (ended_at r d.number c) ws)
