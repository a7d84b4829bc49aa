-- `signs::operands` meets its contract. Assumes nothing.
use mathlib.Core.Path.{sym}
use Rattle.signs.proofs.Signs.{operands-one, operands-two, operands-three}
use Rattle.signs.proofs.operands.Goals as goal

pub returns-then-op-lt3 : goal.returns-then-op-lt3
returns-then-op-lt3 c =
    sym (operands-one _ c.if-op-lt3.true)

pub returns-then-op-lt10 : goal.returns-then-op-lt10
returns-then-op-lt10 c =
    sym (operands-two _ c.if-op-lt3.false c.if-op-lt10.true)

pub returns-else-op-lt10 : goal.returns-else-op-lt10
returns-else-op-lt10 c =
    sym (operands-three _ c.if-op-lt3.false c.if-op-lt10.false)
