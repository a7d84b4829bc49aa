-- `verilog_names::numbers::variable_of` meets its contract: a place among inputs, among registers, among wires. Assumes nothing.
use native.Mathlib.Omega.{arith}
use Rattle.verilog_names.proofs.Numbering.{place-input, place-register, place-wire, place-fits, count_fits}
use Rattle.verilog_names.proofs.numbers.variable_of.Goals as goal

pub returns-then-a-inputs : goal.returns-then-a-inputs
returns-then-a-inputs c =
    place-input _ _ _ _ _ c.place_of-a.ensures (rw c.requires.inputs_value at c.if-a-inputs.true)

pub overflow_add-result : goal.overflow_add-result
overflow_add-result c =
    omega (
      arith,
      count_fits _ _ _ _ c.requires.inputs_value c.requires.count_bound,
      place-fits _ _ _ _ _ _ c.place_of-b.ensures c.requires.count_bound,
    )

pub returns-then-b-registers : goal.returns-then-b-registers
returns-then-b-registers c =
    place-register _ _ _ _ _ _ _ c.place_of-a.ensures c.requires.inputs_value c.if-a-inputs.false
    c.place_of-b.ensures (rw c.requires.registers_value at c.if-b-registers.true)

pub overflow_add-result-2 : goal.overflow_add-result-2
overflow_add-result-2 c =
    omega (arith, count_fits _ _ _ _ c.requires.inputs_value c.requires.count_bound, count_fits _ _ _ _ c.requires.registers_value c.requires.count_bound)

pub overflow_add-result-3 : goal.overflow_add-result-3
overflow_add-result-3 c =
    omega (
      arith,
      count_fits _ _ _ _ c.requires.inputs_value c.requires.count_bound,
      count_fits _ _ _ _ c.requires.registers_value c.requires.count_bound,
      place-fits _ _ _ _ _ _ c.place_of-c.ensures c.requires.count_bound,
    )

pub returns : goal.returns
returns c =
    let p = c.requires in
    place-wire _ _ _ _ _ _ _ _ _ c.place_of-a.ensures p.inputs_value c.if-a-inputs.false
    c.place_of-b.ensures p.registers_value c.if-b-registers.false c.place_of-c.ensures
