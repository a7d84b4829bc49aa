-- `driving::ending_of` meets its contract. Assumes nothing.
use Rattle.driving.proofs.Endings.{ending-refused, ending-rested, ending-restless}
use Rattle.driving.proofs.ending_of.Goals as goal

pub returns-then-r-ne0 : goal.returns-then-r-ne0
returns-then-r-ne0 c =
    ending-refused _ c.if-r-ne0.true

pub returns-then-r : goal.returns-then-r
returns-then-r c =
    ending-rested _ c.if-r-ne0.false c.if-r.true

pub returns : goal.returns
returns c =
    ending-restless _ c.if-r-ne0.false c.if-r.false _ c.most_of.ensures
