-- `named_findings::items::waits_with` meets its contract. Assumes nothing.
use borrow.Author.Rules.{rules}
use mathlib.Core.Path.{◌≡◌, refl, ap, ◌∙◌}
use mathlib.Core.Bool.{Bool, true, false}
use Prim.Native.Nat.{ℕ, ◌+◌, min}
use borrow.Author.Tests.{ltb-true, ltb-false}
use lib.Dec.{ltb}
use native.Mathlib.Omega.{arith}
use Rattle.tables.specs.Readers.{at_most}
use Rattle.tables.proofs.Readers.{at_most-in, at_most-cut}
use Rattle.rules.specs.Judging.{waits_in, waits_of}
use Rattle.rules.proofs.Counting.{size_of-most, waits-most}
use Rattle.witness.proofs.Codes.{waits_of-most}
use Rattle.named_findings.specs.Items.{waits_with}
use Rattle.named_findings.proofs.items.waits_with.Goals as goal

min-at_most : (limit n : ℕ) → min n limit ≡ at_most limit n
min-at_most limit n = by (ltb n limit) refl
  where
    by : (t : Bool) → ltb n limit ≡ t → min n limit ≡ at_most limit n
    by true e = let h = ltb-true n limit e in omega (arith, at_most-in limit n h)
    by false e = let h = ltb-false n limit e in omega (arith, at_most-cut limit n h)

limit-at_most : (limit n : ℕ) → min limit n ≡ at_most limit n
limit-at_most limit n = omega (arith, min-at_most limit n)

pub overflow_add-result : goal.overflow_add-result
overflow_add-result c =
    let a = c.args in
    omega (
      arith,
      waits-most a.sheet.now a.code.now a.thread c.min-n.result,
      waits_of-most a.sheet.now a.code.now a.sizes.now c.min.result,
      size_of-most a.sizes.now a.thread,
      c.size_of.ensures,
      c.min-n.ensures,
      c.min.ensures,
      c.waits_of-before.ensures,
      c.waits_in.ensures,
    )

pub returns : goal.returns
unfolding waits_with
returns c =
    let a = c.args in
    let p = c.waits_of-before.ensures ∙ ap (waits_of a.sheet.now a.code.now a.sizes.now) (c.min.ensures ∙ min-at_most 8 a.thread) in
    let n = c.min-n.ensures ∙ limit-at_most c.size_of.result a.place ∙ ap (λ l. at_most l a.place) c.size_of.ensures in
    let q = c.waits_in.ensures ∙ ap (waits_in a.sheet.now a.code.now a.thread) n in
    λ j. p j + q j
