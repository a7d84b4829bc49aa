-- `verilog_read::named` meets its contract. Assumes nothing.
use mathlib.Core.Path.{refl}
use borrow.Author.Rules.{rules}
use Rattle.verilog_read.proofs.Wholes.{named-no, named-yes}
use Rattle.verilog_read.proofs.named.Goals as goal

pub returns-then-fault : goal.returns-then-fault
returns-then-fault c =
    named-no _ _ _ _ _ _ refl c.first_fault-fault.ensures c.if-fault.true c.refusal.ensures

pub returns : goal.returns
returns c =
    named-yes _ _ _ _ _ _ refl c.first_fault-fault.ensures c.if-fault.false c.number.ensures c.sheeted.ensures
