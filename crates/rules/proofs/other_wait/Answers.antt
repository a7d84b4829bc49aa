-- `rules::other_wait` meets its contract. Assumes nothing.
use mathlib.Core.Path.{refl}
use native.Mathlib.Omega.{arith}
use borrow.Author.Rules.{rules}
use Rattle.std.proofs.lemmas.Iterator.{YieldsList-from_range}
use Prim.Native.Nat.{ℕ}
use Rattle.rules.specs.Judging.{other_wait_below, other_wait_in, size_of}
use Rattle.rules.proofs.Tests.{any_in-range}
use Rattle.rules.proofs.other_wait.Goals as goal

pub returns : goal.returns
unfolding other_wait_below
returns c =
    let a = c.args in
    any_in-range (λ (i : ℕ). other_wait_in a.sheet.now a.code.now i (size_of a.sizes.now i)) a.threads _ _ c.any.ensures.ran (YieldsList-from_range 0 _ _ refl (omega arith))
    (λ k q e. search rules) (λ k q e. (search rules, search rules))
