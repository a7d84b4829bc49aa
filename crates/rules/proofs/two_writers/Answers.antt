-- `rules::two_writers` meets its contract. Assumes nothing.
use mathlib.Core.Path.{refl}
use native.Mathlib.Omega.{arith}
use borrow.Author.Rules.{rules}
use Rattle.std.proofs.lemmas.Iterator.{YieldsList-from_range}
use Rattle.rules.specs.Judging.{two_writers_at, written_twice}
use Rattle.rules.proofs.Tests.{any_in-range}
use Rattle.rules.proofs.two_writers.Goals as goal

pub returns : goal.returns
unfolding two_writers_at
returns c =
    let a = c.args in
    any_in-range (written_twice a.plain.now a.later.now a.threads) a.registers _ _ c.any.ensures.ran (YieldsList-from_range 0 _ _ refl (omega arith))
    (λ k q e. search rules) (λ k q e. (search rules, search rules))
