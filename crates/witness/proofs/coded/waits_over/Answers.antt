-- `coded::waits_over` meets its contract. Assumes nothing.
use mathlib.Core.Path.{ap, ◌∙◌}
use Prim.Native.Nat.{◌+◌}
use native.Mathlib.Omega.{arith}
use lib.Dec.{ltb}
use Rattle.tables.proofs.Readers.{at_most-most}
use Rattle.rules.specs.Judging.{waits_of}
use Rattle.rules.proofs.Counting.{waits-most}
use Rattle.witness.specs.Seeking.{waits_over}
use Rattle.witness.proofs.Codes.{waits_of-most}
use borrow.Author.Rules.{rules}
use Rattle.witness.proofs.coded.waits_over.Goals as goal

pub overflow_add-result : goal.overflow_add-result
overflow_add-result c =
    let a = c.args in
    omega (
      arith,
      waits-most a.sheet.now a.code.now a.i a.n,
      waits_of-most a.sheet.now a.code.now a.sizes.now c.few.result,
      at_most-most 8 a.i,
      c.few.ensures,
      c.waits_of-before.ensures,
      c.waits_in.ensures,
    )

pub returns : goal.returns
unfolding waits_over
returns c =
    let a = c.args in
    let p = c.waits_of-before.ensures ∙ ap (waits_of a.sheet.now a.code.now a.sizes.now) c.few.ensures in
    λ j. ltb 32 (p j + c.waits_in.ensures j)
