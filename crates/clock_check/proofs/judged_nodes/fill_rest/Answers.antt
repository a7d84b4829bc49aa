-- `clock_check::judged_nodes::fill_rest` meets its contract. The loop: the widths so far are stored. Assumes nothing.
use mathlib.Core.Path.{◌≡◌, ap, ◌∙◌}
use Prim.Native.Nat.{ℕ, ◌-◌}
use native.Mathlib.Omega.{arith}
use lib.ListN.{replicate}
use lib.Seq.{sets}
use Rattle.clock_check.proofs.Filling.{run_none, run_more}
use Rattle.clock_check.proofs.judged_nodes.fill_rest.Goals as goal

pub loop-n-init : goal.loop-n-init
loop-n-init c =
    (omega arith, omega (arith, c.requires), run_none c.args.sizes.now c.args.width c.args.from)

pub loop-n-preserved : goal.loop-n-preserved
loop-n-preserved c =
    let a = c.args in
    (omega arith, omega arith, run_more a.sizes.now c.loop-n.sizes a.width a.from c.loop-n.n (omega arith) c.loop-n.invariant.2)

pub returns : goal.returns
returns c =
    let a = c.args in
    let e : c.loop-n.n ≡ 4096 = omega arith in
    c.loop-n.invariant.2 ∙ ap (λ (n : ℕ). sets a.sizes.now a.from (replicate (n - a.from) a.width)) e
