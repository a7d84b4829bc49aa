-- `rules::other_wait_in` meets its contract. Assumes nothing.
use mathlib.Core.Path.{refl}
use native.Mathlib.Omega.{arith}
use borrow.Author.Rules.{rules}
use Rattle.std.proofs.lemmas.Iterator.{YieldsList-from_range}
use Prim.Native.Nat.{ℕ}
use Rattle.pseudocode.specs.Fetching.{fetch_at}
use Rattle.rules.specs.Judging.{other_wait_in, other_wait_of}
use Rattle.rules.proofs.Tests.{any_in-range}
use Rattle.rules.proofs.other_wait_in.Goals as goal

pub returns : goal.returns
unfolding other_wait_in
returns c =
    let a = c.args in
    any_in-range (λ (p : ℕ). other_wait_of (fetch_at a.sheet.now a.code.now a.thread p)) a.n _ _ c.any.ensures.ran (YieldsList-from_range 0 _ _ refl (omega arith))
    (λ k q e. search rules) (λ k q e. (search rules, search rules))
