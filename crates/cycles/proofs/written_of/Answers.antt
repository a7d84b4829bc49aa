-- `cycles::written_of` meets its contract. Assumes nothing.
use borrow.Author.Rules.{rules}
use Rattle.cycles.proofs.Masks.{below-32}
use Rattle.cycles.proofs.Writing.{written_is}
use Rattle.cycles.proofs.written_of.Goals as goal

pub returns : goal.returns
returns c =
    let w = c.writers in
    let p = c.compile-lengths in
    let a = c.args in
    λ x m h e o.
    written_is a.sheet.now a.layout _ p.result _ _ c.joined.result p.ensures.code_after p.ensures.value w.ensures.plain_after w.ensures.later_after
    c.joined.ensures (λ i. below-32 (search rules)) x m h e o
