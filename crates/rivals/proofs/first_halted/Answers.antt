-- `rivals::first_halted` meets its contract. Assumes nothing.
use Rattle.rivals.proofs.Judging.{halted-nobody, halted-plain, halted-first, halted-second, halted-expressed}
use Rattle.rivals.proofs.first_halted.Goals as goal

pub returns-then-cycles-n : goal.returns-then-cycles-n
returns-then-cycles-n c =
    halted-nobody _ _ _ c.comparable-n.ensures c.if-cycles-n.true

pub returns-then-p-n : goal.returns-then-p-n
returns-then-p-n c =
    halted-plain _ _ _ c.comparable-n.ensures c.if-cycles-n.false c.if-p-n.true

pub returns-then-p-n-2 : goal.returns-then-p-n-2
returns-then-p-n-2 c =
    halted-first _ _ _ c.comparable-n.ensures c.if-cycles-n.false c.if-p-n.false c.if-p-n-2.true

pub returns-then-p-n-3 : goal.returns-then-p-n-3
returns-then-p-n-3 c =
    halted-second _ _ _ c.comparable-n.ensures c.if-cycles-n.false c.if-p-n.false c.if-p-n-2.false
    c.if-p-n-3.true

pub returns : goal.returns
returns c =
    halted-expressed _ _ _ c.comparable-n.ensures c.if-cycles-n.false c.if-p-n.false c.if-p-n-2.false
    c.if-p-n-3.false
