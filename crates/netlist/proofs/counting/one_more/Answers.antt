-- `netlist::counting::one_more` meets its contract. Assumes nothing.
use Rattle.netlist.proofs.Uses.{more-below, more-full}
use borrow.Author.Rules.{rules}
use Rattle.netlist.proofs.counting.one_more.Goals as goal

pub returns-then-u-lt2 : goal.returns-then-u-lt2
returns-then-u-lt2 c =
    more-below _ c.if-u-lt2.true

pub returns-else-u-lt2 : goal.returns-else-u-lt2
returns-else-u-lt2 c =
    more-full _ c.if-u-lt2.false
