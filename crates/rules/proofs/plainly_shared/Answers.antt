-- `rules::plainly_shared` meets its contract. Assumes nothing.
use mathlib.Core.Path.{refl}
use native.Mathlib.Omega.{arith}
use borrow.Author.Rules.{rules}
use Rattle.std.proofs.lemmas.Iterator.{YieldsList-from_range}
use Prim.Native.Nat.{◌+◌}
use Rattle.rules.specs.Judging.{plainly_shared_at, shared_at}
use Rattle.rules.proofs.Tests.{any_in-range}
use Rattle.rules.proofs.plainly_shared.Goals as goal

pub returns : goal.returns
unfolding plainly_shared_at
returns c =
    let a = c.args in
    any_in-range (λ r. shared_at a.plain.now a.reading.now a.readers.now a.threads r (a.inputs + r)) a.registers _ _ c.any.ensures.ran (YieldsList-from_range 0 _ _ refl (omega arith))
    (λ k q e. search rules) (λ k q e. (search rules, search rules))
