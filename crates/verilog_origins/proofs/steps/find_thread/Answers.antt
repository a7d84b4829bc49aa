-- `verilog_origins::steps::find_thread` meets its contract. The loop's invariant: the tokens that are left find what all find. Assumes nothing.
use mathlib.Core.Path.{◌≡◌}
use native.Mathlib.Omega.{arith}
use Rattle.verilog_names.proofs.Chosen.{capped-kept}
use Rattle.verilog_origins.proofs.Origins.{past_all, past-hit, past-turn, past-over}
use Rattle.verilog_origins.proofs.steps.find_thread.Goals as goal

pub loop-i-init : goal.loop-i-init
loop-i-init c =
    past_all _ _ _ _ _ c.capped-n.ensures

pub thread-p-requires : goal.thread-p-requires
thread-p-requires c =
    omega (arith, capped-kept _ _ c.capped-n.ensures)

pub returns-then-place-p : goal.returns-then-place-p
returns-then-place-p c =
    past-hit _ _ _ _ _ _ _ c.loop-i-test.true c.thread-p.ensures c.if-place-p.true
    c.loop-i.invariant

pub loop-i-preserved : goal.loop-i-preserved
loop-i-preserved c =
    past-turn _ _ _ _ _ _ _ c.loop-i-test.true c.thread-p.ensures c.if-place-p.false
    c.loop-i.invariant

pub returns : goal.returns
returns c =
    let e : c.capped-n.result ≡ c.loop-i.i = omega (arith, c.loop-i.auto.i-end, c.loop-i-test.false) in
    rw e (past-over _ _ _ _ _ _ c.loop-i-test.false c.loop-i.invariant)
