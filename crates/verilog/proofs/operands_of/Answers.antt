-- `verilog::operands_of` meets its contract. Assumes nothing.
use mathlib.Core.Path.{sym, ap, ◌∙◌}
use Prim.Native.Nat.{◌+◌}
use native.Mathlib.Omega.{arith}
use Rattle.pseudocode.proofs.Skipping.{arguments-most}
use Rattle.verilog.proofs.Printing.{operands-few, count-call, count-operator, operator-call, operator-operator}
use Rattle.verilog.proofs.operands_of.Goals as goal

pub returns-then-map-ne128 : goal.returns-then-map-ne128
returns-then-map-ne128 c =
    let a = c.args in
    let h = c.if-map-ne128.true in
    let s = a.sheet.now in
    let ds = a.definitions.now in (
      sym (operator-operator s ds _ _ h),
      c.operands-n.ensures ∙ sym (count-operator s ds _ _ h),
      omega (arith, c.operands-n.ensures, operands-few a.b),
    )

pub overflow_add-result : goal.overflow_add-result
overflow_add-result c =
    let a = c.args in
    omega (arith, c.argument_count-n.ensures, arguments-most a.sheet.now a.definitions.now a.b)

pub returns : goal.returns
returns c =
    let a = c.args in
    let h = c.if-map-ne128.false in
    let s = a.sheet.now in
    let ds = a.definitions.now in (
      ap (λ n. 11 + n) c.argument_count-n.ensures ∙ sym (operator-call s ds _ _ h),
      c.argument_count-n.ensures ∙ sym (count-call s ds _ _ h),
      omega (arith, c.argument_count-n.ensures, arguments-most s ds a.b),
    )
