-- `naming::within` meets its contract. Assumes nothing.
use mathlib.Core.Path.{◌≡◌, sym, refl, ◌∙◌}
use mathlib.Core.Bool.{Bool, true, false}
use Prim.Native.Nat.{ℕ, ◌≤◌, ◌<◌}
use native.Mathlib.Omega.{arith}
use borrow.Author.Tests.{ltb-true, ltb-false}
use lib.Dec.{ltb}
use Rattle.std.specs.Prelude.{min}
use Rattle.naming.specs.Naming.{within}
use Rattle.naming.proofs.Naming.{within-less, within_all}
use Rattle.naming.proofs.within.Goals as goal

min-within : (n : ℕ) → min n 80 ≡ within n
min-within n = by (ltb n 80) refl
  where
    by : (t : Bool) → ltb n 80 ≡ t → min n 80 ≡ within n
    by true e = let h : n < 80 = ltb-true n 80 e in let m : min n 80 ≡ n = omega arith in m ∙ sym (within-less n h)
    by false e = let h : 80 ≤ n = ltb-false n 80 e in let m : min n 80 ≡ 80 = omega arith in m ∙ sym (within_all n h)

pub returns : goal.returns
returns c =
    c.min.ensures ∙ min-within c.args.n
