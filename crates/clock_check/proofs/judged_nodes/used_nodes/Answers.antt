-- `clock_check::judged_nodes::used_nodes` meets its contract. The loop: the nodes from `n` on are variable 0. Assumes nothing.
use mathlib.Core.Path.{◌≡◌}
use Prim.Native.Nat.{◌+◌, ◌-◌}
use native.Mathlib.Omega.{arith}
use Rattle.clock_check.proofs.Tests.{rest-none, rest_more}
use Rattle.clock_check.proofs.judged_nodes.used_nodes.Goals as goal

pub loop-n-init : goal.loop-n-init
loop-n-init c =
    rest-none c.args.nodes.now

pub returns-then-not-is_zero : goal.returns-then-not-is_zero
returns-then-not-is_zero c =
    let e : c.loop-n.n ≡ c.loop-n.n - 1 + 1 = omega (arith, c.loop-n-test.true) in
    rw (← e) c.loop-n.invariant

pub loop-n-preserved : goal.loop-n-preserved
loop-n-preserved c =
    rest_more c.args.nodes.now c.loop-n.n _ c.is_zero.result c.loop-n.invariant (omega arith) c.is_zero.ensures
    (c.if-not-is_zero.false)

pub returns : goal.returns
returns c =
    let e : c.loop-n.n ≡ 0 = omega (arith, c.loop-n-test.false) in
    rw e at c.loop-n.invariant
