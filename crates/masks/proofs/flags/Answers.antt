-- `masks::flags` meets its contract. The loop's invariant: the marks below `i` are those of the set.
-- Assumes nothing.
use mathlib.Core.Bool.{false}
use mathlib.Core.Path.{◌≡◌, refl, ◌∙◌}
use Prim.Native.Nat.{◌<◌}
use native.Mathlib.Omega.{arith}
use lib.Dec.{lit≤}
use lib.ListN.{length, length-set, replicate}
use Rattle.masks.specs.Masks.{bits}
use Rattle.masks.proofs.Masks.{length-bits}
use Rattle.masks.proofs.Loops.{agree-zero, agree-set, agree-all}
use Rattle.masks.proofs.flags.Goals as goal

pub loop-i-init : goal.loop-i-init
loop-i-init c =
    (lit≤ tt, refl, agree-zero (replicate 32 false) (bits c.args.m))

pub loop-i-preserved : goal.loop-i-preserved
loop-i-preserved c =
    let o = c.loop-i.out in
    let b = bits c.args.m in
    let l : c.loop-i.i < length o = omega arith in
    let v = c.has.result in
    let e = length-set o c.loop-i.i v ∙ c.loop-i.invariant.1 in
    (omega arith, e, agree-set o b c.loop-i.i v l c.has.ensures c.loop-i.invariant.2)

pub returns : goal.returns
returns c =
    let m = c.args.m in
    let e : c.loop-i.i ≡ 32 = omega arith in
    let same = rw e at c.loop-i.invariant.2 in
    agree-all 32 c.loop-i.out (bits m) c.loop-i.invariant.1 (length-bits m) same
