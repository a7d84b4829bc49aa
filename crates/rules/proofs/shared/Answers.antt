-- `rules::shared` meets its contract. Assumes nothing.
use mathlib.Core.Path.{refl}
use native.Mathlib.Omega.{arith}
use borrow.Author.Rules.{rules}
use Rattle.std.proofs.lemmas.Iterator.{YieldsList-from_range}
use Rattle.rules.specs.Judging.{shared_at, shared_by}
use Rattle.rules.proofs.Tests.{any_in-range}
use Rattle.rules.proofs.shared.Goals as goal

pub returns : goal.returns
unfolding shared_at
returns c =
    let a = c.args in
    any_in-range (shared_by a.plain.now a.reading.now a.readers.now a.r a.v) a.threads _ _ c.any.ensures.ran (YieldsList-from_range 0 _ _ refl (omega arith))
    (λ k q e. search rules) (λ k q e. (search rules, search rules))
