-- `rules::written_twice` meets its contract. Assumes nothing.
use mathlib.Core.Path.{refl}
use native.Mathlib.Omega.{arith}
use borrow.Author.Rules.{rules}
use Rattle.std.proofs.lemmas.Iterator.{YieldsList-from_range}
use Rattle.rules.specs.Judging.{written_twice, writes_too}
use Rattle.rules.proofs.Tests.{any_in-range}
use Rattle.rules.proofs.written_twice.Goals as goal

pub returns : goal.returns
unfolding written_twice
returns c =
    let a = c.args in
    any_in-range (writes_too a.plain.now a.later.now a.threads a.r) a.threads _ _ c.any.ensures.ran (YieldsList-from_range 0 _ _ refl (omega arith))
    (λ k q e. search rules) (λ k q e. (search rules, search rules))
