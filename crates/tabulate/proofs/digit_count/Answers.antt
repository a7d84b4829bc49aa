-- `tabulate::digit_count` meets its contract. The loop's invariant: the digits counted and those of the rest are one more
-- than the number's. Assumes nothing.
use Prim.Native.Nat.{◌≤◌, ◌+◌, ◌-◌}
use mathlib.Core.Path.{◌≡◌}
use native.Mathlib.Omega.{arith}
use lib.ListN.{length}
use Rattle.writing.specs.Numbers.{decimal}
use Rattle.writing.proofs.Numbers.{decimal-twenty}
use Rattle.tabulate.proofs.Tabulate.{digits_last, digits-next}
use borrow.Author.Rules.{rules}
use Rattle.tabulate.proofs.digit_count.Goals as goal

pub loop-rest-init : goal.loop-rest-init
loop-rest-init c =
    (search rules, omega arith)

pub overflow_add-count : goal.overflow_add-count
overflow_add-count c =
    omega (arith, decimal-twenty c.args.n, c.loop-rest.invariant.1)

pub loop-rest-preserved : goal.loop-rest-preserved
loop-rest-preserved c =
    let l = c.loop-rest in
    let n = c.ranges.n in
    let e = digits-next l.rest c.loop-rest-test.true (omega arith) in
    (omega arith, omega (arith, e, l.invariant.1))

pub returns : goal.returns
returns c =
    let l = c.loop-rest in
    let e = digits_last l.rest c.loop-rest-test.false in
    omega (arith, l.invariant.1)
