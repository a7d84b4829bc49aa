-- `rules::reads_upward` meets its contract. Assumes nothing.
use mathlib.Core.Path.{refl}
use native.Mathlib.Omega.{arith}
use borrow.Author.Rules.{rules}
use Rattle.std.proofs.lemmas.Iterator.{YieldsList-from_range}
use Rattle.rules.specs.Judging.{reads_upward_at, reads_above}
use Rattle.rules.proofs.Tests.{any_in-range}
use Rattle.rules.proofs.reads_upward.Goals as goal

pub returns : goal.returns
unfolding reads_upward_at
returns c =
    let a = c.args in
    any_in-range (reads_above a.readers.now a.inputs a.registers a.wires) a.wires _ _ c.any.ensures.ran (YieldsList-from_range 0 _ _ refl (omega arith))
    (λ k q e. search rules) (λ k q e. (search rules, search rules))
