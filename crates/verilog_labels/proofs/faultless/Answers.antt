-- `verilog_labels::faultless` meets its contract. Assumes nothing.
use borrow.Author.Rules.{rules}
use mathlib.Core.Path.{refl}
use Rattle.verilog_labels.proofs.Wholes.{fault-no, fault-yes}
use Rattle.verilog_labels.proofs.faultless.Goals as goal

pub returns-then-fault : goal.returns-then-fault
returns-then-fault c =
    fault-no _ _ _ _ _ _ _ _ refl c.first_fault-fault.ensures c.if-fault.true

pub returns : goal.returns
returns c =
    let rows = c.rows.ensures in
    let left = c.if-fault.false in
    fault-yes _ _ _ _ _ _ _ _ refl c.first_fault-fault.ensures left rows.places_after rows.lengths_after
