-- `verilog_tokens::numbers::shifted` meets its contract, row by row. Assumes nothing.
use mathlib.Core.Path.{ap}
use Prim.Native.Nat.{◌*◌, ◌+◌}
use native.Mathlib.Omega.{arith}
use Rattle.verilog_tokens.proofs.Digits.{shifted_none, shifted-more, product-few}
use Rattle.verilog_tokens.proofs.numbers.shifted.Goals as goal

pub returns-then-b-eq95 : goal.returns-then-b-eq95
returns-then-b-eq95 c =
    shifted_none c.args.radix c.args.n _ (omega (arith, c.ranges.n)) c.if-b-eq95.true

pub overflow_mul-m : goal.overflow_mul-m
overflow_mul-m c =
    let a = c.args in
    let r-fits = c.ranges in
    let h = product-few a.n a.radix (omega (arith, r-fits.n)) (omega (arith, r-fits.radix)) in
    omega arith

pub overflow_add-m : goal.overflow_add-m
overflow_add-m c =
    let a = c.args in
    let r-fits = c.ranges in
    let h = product-few a.n a.radix (omega (arith, r-fits.n)) (omega (arith, r-fits.radix)) in
    omega (arith, c.digit_of.type_inv)

pub returns : goal.returns
returns c =
    let a = c.args in
    let i1 = c.if-b-eq95 in
    shifted-more a.radix a.n a.b _ i1.false (ap (λ x. a.n * a.radix + x) c.digit_of.ensures)
