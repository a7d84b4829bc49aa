-- `verilog_read::bytes::threads` meets its contract. The loop's invariant: what is still to be written gives the whole. Assumes nothing.
use borrow.Author.Rules.{rules}
use mathlib.Core.Path.{◌≡◌}
use Prim.Native.Nat.{◌-◌}
use native.Mathlib.Omega.{arith}
use Rattle.writing.specs.Buffer.{filled}
use Rattle.verilog_names.specs.Chosen.{capped}
use Rattle.verilog_names.proofs.Chosen.{capped-kept}
use Rattle.verilog_read.specs.Read.{each, thread_at}
use Rattle.verilog_read.proofs.Turns.{each_all, each_turn, each_over}
use Rattle.verilog_read.proofs.bytes.threads.Goals as goal

pub loop-i-init : goal.loop-i-init
loop-i-init c =
    each_all _ _ _ _ c.capped-n.ensures

pub thread-p-requires : goal.thread-p-requires
thread-p-requires c =
    omega (arith, capped-kept _ _ c.capped-n.ensures)

pub loop-i-preserved : goal.loop-i-preserved
loop-i-preserved c =
    each_turn _ _ _ _ _ _ c.loop-i-test.true c.thread-p.ensures c.loop-i.invariant

pub returns : goal.returns
returns c =
    each_over _ _ _ _ _ c.loop-i-test.false c.loop-i.invariant
