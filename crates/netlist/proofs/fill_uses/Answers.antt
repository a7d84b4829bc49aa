-- `netlist::fill_uses` meets its contract. Assumes nothing.
use native.Mathlib.Omega.{arith}
use Rattle.netlist.specs.Uses.{uses_of}
use borrow.Author.Rules.{rules}
use Rattle.netlist.proofs.fill_uses.Goals as goal

pub count_nodes-requires : goal.count_nodes-requires
count_nodes-requires c =
    omega (arith, c.lesser-n.ensures)

pub overflow_mul-k : goal.overflow_mul-k
overflow_mul-k c =
    omega (arith, c.lesser-k.ensures)

pub count_entries-requires : goal.count_entries-requires
count_entries-requires c =
    omega (arith, c.lesser-k.ensures)

pub returns : goal.returns
unfolding uses_of
returns c =
    rw (← c.lesser-n.ensures, ← c.lesser-k.ensures, ← c.count_nodes.ensures)
    c.count_entries.ensures
