-- `rules::reads_above` meets its contract. Assumes nothing.
use mathlib.Core.Path.{refl}
use native.Mathlib.Omega.{arith}
use borrow.Author.Rules.{rules}
use Rattle.std.proofs.lemmas.Iterator.{YieldsList-from_range}
use Prim.Native.Nat.{ℕ, ◌+◌}
use Rattle.rules.specs.Judging.{reads_above, upward_at}
use Rattle.rules.proofs.Tests.{any_in-range}
use Rattle.rules.proofs.reads_above.Goals as goal

pub returns : goal.returns
unfolding reads_above
returns c =
    let a = c.args in
    any_in-range (λ (j : ℕ). upward_at a.readers.now a.k (a.inputs + a.registers + j) j) a.wires _ _ c.any.ensures.ran (YieldsList-from_range 0 _ _ refl (omega arith))
    (λ k q e. search rules) (λ k q e. (search rules, search rules))
