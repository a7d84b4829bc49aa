-- `coded::by_code` meets its contract. Assumes nothing.
use mathlib.Core.Path.{ap}
use native.Mathlib.Omega.{arith}
use lib.Dec.{ltb}
use Rattle.rules.proofs.Counting.{size_of-most}
use Rattle.witness.specs.Seeking.{by_code}
use borrow.Author.Rules.{rules}
use Rattle.witness.proofs.coded.by_code.Goals as goal

pub waits_over-requires : goal.waits_over-requires
waits_over-requires c =
    let a = c.args in
    omega (arith, size_of-most a.sizes.now a.k, c.size_of-in-Waits.ensures)

pub returns-in-OtherWait : goal.returns-in-OtherWait
unfolding by_code
returns-in-OtherWait c =
    rw (c.in-OtherWait.is, ← c.size_of.ensures) c.other_wait_in.ensures

pub returns-in-OtherWaitAt : goal.returns-in-OtherWaitAt
unfolding by_code
returns-in-OtherWaitAt c =
    rw (c.in-OtherWaitAt.is, ← c.fetch.ensures) c.other_wait_of.ensures

pub returns-in-ClockAt : goal.returns-in-ClockAt
unfolding by_code
returns-in-ClockAt c =
    rw (c.in-ClockAt.is, ← c.fetch-x.ensures) c.reads_clock.ensures

pub returns-in-Waits : goal.returns-in-Waits
unfolding by_code
returns-in-Waits c =
    rw (c.in-Waits.is, ← c.size_of-in-Waits.ensures) c.waits_over.ensures

pub returns-in-WaitsAt : goal.returns-in-WaitsAt
unfolding by_code
returns-in-WaitsAt c =
    rw c.in-WaitsAt.is c.waits_over-in-WaitsAt.ensures

pub returns-in-Spills : goal.returns-in-Spills
unfolding by_code
returns-in-Spills c =
    rw (c.in-Spills.is, ← c.size_of-in-Spills.ensures) (ap (ltb 4096) c.nodes_after.ensures)

pub returns-in-SpillsAt : goal.returns-in-SpillsAt
unfolding by_code
returns-in-SpillsAt c =
    rw c.in-SpillsAt.is (ap (ltb 4096) c.nodes_after-in-SpillsAt.ensures)
