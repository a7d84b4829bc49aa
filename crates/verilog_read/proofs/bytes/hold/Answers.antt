-- `verilog_read::bytes::hold` meets its contract. The loop's invariant: what is still to be stored gives the whole. Assumes nothing.
use borrow.Author.Rules.{rules}
use mathlib.Core.Path.{◌≡◌, refl}
use Prim.Native.Nat.{◌-◌}
use native.Mathlib.Omega.{arith}
use lib.Seq.{sets}
use Rattle.verilog_read.specs.Read.{padded}
use Rattle.verilog_read.proofs.Turns.{held-turn, held-over}
use Rattle.verilog_read.proofs.bytes.hold.Goals as goal

pub loop-i-init : goal.loop-i-init
loop-i-init c =
    refl

pub bounds-bytes-i : goal.bounds-bytes-i
bounds-bytes-i c =
    omega arith

pub bounds-held-i : goal.bounds-held-i
bounds-held-i c =
    omega arith

pub loop-i-preserved : goal.loop-i-preserved
loop-i-preserved c =
    held-turn _ 65536 _ _ _ _ _ c.loop-i-test.true refl refl c.loop-i.invariant

pub returns : goal.returns
returns c =
    held-over _ 65536 _ _ _ c.loop-i-test.false c.loop-i.invariant
