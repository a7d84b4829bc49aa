-- `masks::mask_of` meets its contract. The loop's invariant: the marks below `i` are those of the
-- array, and none is up from `i` on. Assumes nothing.
use Rattle.std.proofs.Common.{rules, ◌≡◌, ◌<◌, length}
use native.Mathlib.Omega.{arith}
use lib.Dec.{lit≤}
use Rattle.masks.specs.Masks.{bits}
use Rattle.masks.proofs.Masks.{length-bits}
use Rattle.masks.proofs.Loops.{agree-all, copied-zero, copied-up, copied-down}
use Rattle.masks.proofs.mask_of.Goals.{then-flags-i, else-flags-i}
use Rattle.masks.proofs.mask_of.Goals as goal

pub loop-i-init : goal.loop-i-init
loop-i-init c =
    (lit≤ tt, copied-zero c.args.flags)

pub loop-i-preserved : goal.loop-i-preserved
loop-i-preserved c =
    let m = c.loop-i.m in
    let more = copied-up (bits m) c.args.flags c.loop-i.i c.loop-i.invariant.1 in
    let same = copied-down (bits m) c.args.flags c.loop-i.i c.loop-i.invariant.1 in
    let l : c.loop-i.i < length (bits m) = rw (length-bits m) c.loop-i-test.true in (
      omega arith,
      elim c.if-flags-i.branch [
        | then-flags-i w ↦ rw (w.m-is, w.with-m.ensures) (more l w.if-flags-i.true)
        | else-flags-i w ↦ rw w.m-is (same w.if-flags-i.false)
      ],
    )

pub returns : goal.returns
returns c =
    let m = c.loop-i.m in
    let e : c.loop-i.i ≡ 32 = omega arith in
    let same = rw e at c.loop-i.invariant.1.same in
    agree-all 32 (bits m) c.args.flags (length-bits m) (search rules) same
