-- `cycles::prepare` meets its contract: each way through the code is a law of proofs/Preparing. Assumes nothing.
use Rattle.cycles.specs.Preparing.{filled}
use Rattle.cycles.proofs.Preparing.{wrong-nodes, wrong-rows, wrong-sheet, lent-wrong, lent-right}
use Rattle.cycles.proofs.prepare.Goals as goal

pub returns-then-nodes-ne16384 : goal.returns-then-nodes-ne16384
returns-then-nodes-ne16384 c =
    let a = c.args in
    let both = wrong-nodes a.sheet.now a.nodes.now a.rows.now (filled a.plan.now a.lent.now a.table.now a.numbers.now) c.if-nodes-ne16384.true in
    record { value = both.0; numbers_after = both.1 }

pub returns-then-rows-ne1056 : goal.returns-then-rows-ne1056
returns-then-rows-ne1056 c =
    let a = c.args in
    let both = wrong-rows a.sheet.now a.nodes.now a.rows.now (filled a.plan.now a.lent.now a.table.now a.numbers.now) c.if-nodes-ne16384.false c.if-rows-ne1056.true in
    record { value = both.0; numbers_after = both.1 }

pub returns-then-number-ne0 : goal.returns-then-number-ne0
returns-then-number-ne0 c =
    let n = c.number-number in
    let a = c.args in
    let both = wrong-sheet a.sheet.now a.nodes.now a.rows.now (filled a.plan.now a.lent.now a.table.now a.numbers.now) c.if-nodes-ne16384.false c.if-rows-ne1056.false n.result n.ensures
    c.if-number-ne0.true in
    record { value = both.0; numbers_after = both.1 }

pub returns-then-not-tables_fit : goal.returns-then-not-tables_fit
returns-then-not-tables_fit c =
    let j = c.tables_fit in
    let f = c.fill in
    let o = c.written_of-written in
    let r = c.read-read in
    let n = c.number-number in
    let a = c.args in
    let both = lent-wrong a.sheet.now a.nodes.now a.rows.now (filled a.plan.now a.lent.now a.table.now a.numbers.now) c.if-nodes-ne16384.false c.if-rows-ne1056.false r.result r.ensures
    n.result n.ensures c.if-number-ne0.false o.result o.ensures _ f.ensures j.result j.ensures.value
    c.if-not-tables_fit.true in
    record { value = both.0; numbers_after = both.1 }

pub returns : goal.returns
returns c =
    let j = c.tables_fit in
    let f = c.fill in
    let o = c.written_of-written in
    let r = c.read-read in
    let n = c.number-number in
    let a = c.args in
    let both = lent-right a.sheet.now a.nodes.now a.rows.now (filled a.plan.now a.lent.now a.table.now a.numbers.now) c.if-nodes-ne16384.false c.if-rows-ne1056.false r.result r.ensures
    n.result n.ensures c.if-number-ne0.false o.result o.ensures _ f.ensures j.result j.ensures.value
    c.if-not-tables_fit.false _ j.ensures.sizes_after _ c.fill_lent.ensures in
    record { value = both.0; numbers_after = both.1 }
