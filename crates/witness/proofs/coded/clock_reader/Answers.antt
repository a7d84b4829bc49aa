-- `coded::clock_reader` meets its contract. Assumes nothing.
use native.Mathlib.Omega.{arith}
use Rattle.rules.proofs.Counting.{size_of-most}
use Rattle.witness.proofs.Ways.{clock-thread, clock-wire}
use borrow.Author.Rules.{rules}
use Rattle.witness.proofs.coded.clock_reader.Goals as goal

pub first_coded-p-requires : goal.first_coded-p-requires
first_coded-p-requires c =
    let a = c.args in
    omega (arith, size_of-most a.sizes.now c.first_marked-i.result, c.size_of-size.ensures)

pub returns-then-i-threads : goal.returns-then-i-threads
returns-then-i-threads c =
    clock-thread _ _ _ _ _ _ _ _ c.wide-threads.ensures c.first_marked-i.ensures.value c.if-i-threads.true c.size_of-size.ensures c.first_coded-p.ensures
    c.a_place.ensures

pub returns : goal.returns
returns c =
    clock-wire _ _ _ _ _ _ _ _ c.wide-threads.ensures c.first_marked-i.ensures.value c.if-i-threads.false c.wide-wires.ensures c.first_marked-k.ensures.value c.a_wire.ensures
