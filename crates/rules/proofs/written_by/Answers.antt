-- `rules::written_by` meets its contract. Assumes nothing.
use mathlib.Core.Path.{refl}
use native.Mathlib.Omega.{arith}
use borrow.Author.Rules.{rules}
use Rattle.std.proofs.lemmas.Iterator.{YieldsList-from_range}
use Rattle.rules.specs.Judging.{written_by, marked}
use Rattle.rules.proofs.Tests.{any_in-range}
use Rattle.rules.proofs.written_by.Goals as goal

pub returns : goal.returns
unfolding written_by
returns c =
    let a = c.args in
    any_in-range (λ i. marked a.table.now i a.r) a.threads _ _ c.any.ensures.ran (YieldsList-from_range 0 _ _ refl (omega arith))
    (λ k q e. search rules) (λ k q e. (search rules, search rules))
