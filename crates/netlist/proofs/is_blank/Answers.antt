-- `netlist::is_blank` meets its contract, by the first word that isn't 0. Assumes nothing.
use Rattle.netlist.proofs.Cells.{blank-kind, blank-first, blank-second, blank-third}
use borrow.Author.Rules.{rules}
use Rattle.netlist.proofs.is_blank.Goals as goal

pub returns-then-kind-ne0 : goal.returns-then-kind-ne0
returns-then-kind-ne0 c =
    blank-kind _ _ c.if-kind-ne0.true

pub returns-then-first-ne0 : goal.returns-then-first-ne0
returns-then-first-ne0 c =
    blank-first _ _ c.if-kind-ne0.false c.if-first-ne0.true

pub returns-then-second-ne0 : goal.returns-then-second-ne0
returns-then-second-ne0 c =
    blank-second _ _ c.if-kind-ne0.false c.if-first-ne0.false c.if-second-ne0.true

pub returns : goal.returns
returns c =
    blank-third _ _ c.if-kind-ne0.false c.if-first-ne0.false c.if-second-ne0.false
