-- `netlist::counting::count_use` meets its contract. Assumes nothing.
use Rattle.netlist.proofs.Uses.{counted-in, counted-past}
use borrow.Author.Rules.{rules}
use Rattle.netlist.proofs.counting.count_use.Goals as goal

pub returns-then-i-lt4096 : goal.returns-then-i-lt4096
returns-then-i-lt4096 c =
    counted-in _ _ c.if-i-lt4096.true c.one_more.ensures

pub returns-else-i-lt4096 : goal.returns-else-i-lt4096
returns-else-i-lt4096 c =
    counted-past _ _ c.if-i-lt4096.false
