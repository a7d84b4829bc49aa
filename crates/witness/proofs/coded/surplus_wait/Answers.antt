-- `coded::surplus_wait` meets its contract. Assumes nothing.
use native.Mathlib.Omega.{arith}
use Rattle.rules.proofs.Counting.{size_of-most}
use Rattle.witness.proofs.Ways.{surplus-way}
use borrow.Author.Rules.{rules}
use Rattle.witness.proofs.coded.surplus_wait.Goals as goal

pub first_coded-p-requires : goal.first_coded-p-requires
first_coded-p-requires c =
    let a = c.args in
    omega (arith, size_of-most a.sizes.now c.first_coded-i.result, c.size_of-size.ensures)

pub returns : goal.returns
returns c =
    surplus-way _ _ _ _ _ _ c.wide-threads.ensures c.first_coded-i.ensures c.size_of-size.ensures c.first_coded-p.ensures c.a_place.ensures
