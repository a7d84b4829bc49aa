-- `coded::odd_wait` meets its contract. Assumes nothing.
use native.Mathlib.Omega.{arith}
use Rattle.rules.proofs.Counting.{size_of-most}
use Rattle.witness.proofs.Ways.{odd-way}
use borrow.Author.Rules.{rules}
use Rattle.witness.proofs.coded.odd_wait.Goals as goal

pub first_coded-p-requires : goal.first_coded-p-requires
first_coded-p-requires c =
    let a = c.args in
    omega (arith, size_of-most a.sizes.now c.first_coded-i.result, c.size_of-size.ensures)

pub returns : goal.returns
returns c =
    odd-way _ _ _ _ _ _ c.wide-threads.ensures c.first_coded-i.ensures c.size_of-size.ensures c.first_coded-p.ensures c.a_place.ensures
