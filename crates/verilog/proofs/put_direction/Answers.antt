-- `verilog::put_direction` meets its contract. Assumes nothing.
use Prim.Native.Nat.{◌+◌, ◌≤◌, ◌<◌}
use mathlib.Core.Path.{sym, ap, ◌∙◌}
use native.Mathlib.Omega.{arith}
use Rattle.writing.specs.Ascii.{ascii}
use Rattle.writing.specs.Buffer.{puts}
use Rattle.verilog.proofs.Printing.{direction-input, direction-register, direction-wire}
use Rattle.verilog.proofs.put_direction.Goals as goal

pub returns-then-v-inputs : goal.returns-then-v-inputs
unfolding ascii
returns-then-v-inputs c =
    let a = c.args in
    let h : a.v < a.inputs = omega arith in
    c.put_word.ensures ∙ ap (puts _) (sym (direction-input _ a.registers _ h))

pub returns-then-v-inputs-2 : goal.returns-then-v-inputs-2
unfolding ascii
returns-then-v-inputs-2 c =
    let a = c.args in
    let h : a.inputs ≤ a.v = omega arith in
    let l : a.v < a.inputs + a.registers = omega arith in
    c.put_word-then-v-inputs-2.ensures ∙ ap (puts _) (sym (direction-register _ _ _ h l))

pub returns : goal.returns
unfolding ascii
returns c =
    let a = c.args in
    let h : a.inputs ≤ a.v = omega arith in
    let l : a.inputs + a.registers ≤ a.v = omega arith in
    c.put_word-2.ensures ∙ ap (puts _) (sym (direction-wire _ _ _ h l))
