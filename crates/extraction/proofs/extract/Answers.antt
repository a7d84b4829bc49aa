-- `extraction::extract` meets its contract: each way through the code is a law of proofs/Extracting. Assumes nothing.
use mathlib.Core.Path.{refl}
use Rattle.extraction.proofs.Extracting.{extract-nodes, extract-rows, extract-refused, extract-done}
use borrow.Author.Rules.{rules}
use Rattle.extraction.proofs.extract.Goals as goal

pub returns-then-nodes-ne16384 : goal.returns-then-nodes-ne16384
returns-then-nodes-ne16384 c =
    let x = extract-nodes _ _ _ c.if-nodes-ne16384.true in
    record { value = x.0; nodes_after = x.1.0; rows_after = x.1.1 }

pub returns-then-rows-ne1056 : goal.returns-then-rows-ne1056
returns-then-rows-ne1056 c =
    let x = extract-rows _ _ _ c.if-nodes-ne16384.false c.if-rows-ne1056.true in
    record { value = x.0; nodes_after = x.1.0; rows_after = x.1.1 }

pub expressions-number-requires : goal.expressions-number-requires
expressions-number-requires c =
    (refl, refl)

pub returns-then-number-ne0 : goal.returns-then-number-ne0
returns-then-number-ne0 c =
    let x = extract-refused _ _ _ c.if-nodes-ne16384.false c.if-rows-ne1056.false _ _ _ c.expressions-number.ensures c.if-number-ne0.true in
    record { value = x.0; nodes_after = x.1.0; rows_after = x.1.1 }

pub returns : goal.returns
returns c =
    let x = extract-done _ _ _ c.if-nodes-ne16384.false c.if-rows-ne1056.false _ _ _ c.expressions-number.ensures c.if-number-ne0.false _ _ c.copy_nodes.ensures
    c.copy_rows.ensures in
    record { value = x.0; nodes_after = x.1.0; rows_after = x.1.1 }
