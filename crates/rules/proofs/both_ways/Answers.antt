-- `rules::both_ways` meets its contract. Assumes nothing.
use mathlib.Core.Path.{refl}
use native.Mathlib.Omega.{arith}
use borrow.Author.Rules.{rules}
use Rattle.std.proofs.lemmas.Iterator.{YieldsList-from_range}
use Rattle.rules.specs.Judging.{both_ways_at, written_both}
use Rattle.rules.proofs.Tests.{any_in-range}
use Rattle.rules.proofs.both_ways.Goals as goal

pub returns : goal.returns
unfolding both_ways_at
returns c =
    let a = c.args in
    any_in-range (written_both a.plain.now a.later.now a.threads) a.registers _ _ c.any.ensures.ran (YieldsList-from_range 0 _ _ refl (omega arith))
    (λ k q e. search rules) (λ k q e. (search rules, search rules))
