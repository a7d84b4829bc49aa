-- `verilog_read::bytes::copy` meets its contract. The loop's invariant: what is still to be stored gives the whole. Assumes nothing.
use borrow.Author.Rules.{rules}
use mathlib.Core.Path.{◌≡◌, refl, ◌∙◌}
use Prim.Native.Nat.{◌-◌}
use native.Mathlib.Omega.{arith}
use lib.ListN.{length}
use lib.Seq.{sets}
use Rattle.verilog_read.specs.Read.{padded, copied}
use Rattle.verilog_read.proofs.Turns.{copied_all, copied-turn, copied-over}
use Rattle.verilog_read.proofs.bytes.copy.Goals as goal

pub loop-i-init : goal.loop-i-init
loop-i-init c =
    (refl, copied_all _ _)

pub bounds-lent-i : goal.bounds-lent-i
bounds-lent-i c =
    omega arith

pub loop-i-preserved : goal.loop-i-preserved
loop-i-preserved c =
    copied-turn _ c.loop-i.lent _ _ _ _ _ (omega (arith, c.loop-i-test.true, c.loop-i.invariant.0)) c.byte_at.ensures refl c.loop-i.invariant

pub shape_of-lent : goal.shape_of-lent
shape_of-lent c =
    c.loop-i.invariant.0

pub returns : goal.returns
returns c =
    copied-over _ _ _ _ (omega (arith, c.loop-i-test.false, c.loop-i.invariant.0)) c.loop-i.invariant.1
