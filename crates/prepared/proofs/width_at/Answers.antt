-- `prepared::width_at` meets its contract: each way through the code is a law of proofs/Ways. Assumes nothing.
use mathlib.Core.Path.{◌∙◌}
use native.Mathlib.Omega.{arith}
use Rattle.plan_fitting.proofs.Judged.{inputs-byte, registers-byte, wires-byte}
use Rattle.prepared.proofs.Ways.{width-within, width-past}
use Rattle.prepared.proofs.width_at.Goals as goal

pub overflow_add-inputs : goal.overflow_add-inputs
overflow_add-inputs c =
    let ws = c.args.plan.now in
    omega (arith, c.inputs.ensures, c.registers.ensures, inputs-byte ws, registers-byte ws)

pub overflow_add-inputs-2 : goal.overflow_add-inputs-2
overflow_add-inputs-2 c =
    let ws = c.args.plan.now in
    omega (arith, c.inputs.ensures, c.registers.ensures, c.wires.ensures, inputs-byte ws, registers-byte ws, wires-byte ws)

pub returns-then-v-inputs : goal.returns-then-v-inputs
returns-then-v-inputs c =
    c.width.ensures ∙ width-within _ _ (omega (arith, c.inputs.ensures, c.registers.ensures, c.wires.ensures))

pub returns : goal.returns
returns c =
    width-past _ _ (omega (arith, c.inputs.ensures, c.registers.ensures, c.wires.ensures))
