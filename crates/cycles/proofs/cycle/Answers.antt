-- `cycles::cycle` meets its contract: what `prepare` refuses, and the call on what it filled. Assumes nothing.
use mathlib.Core.Path.{sym, ◌∙◌}
use Rattle.cycles.proofs.Claims.{cycle-off, cycle-on, whole}
use Rattle.cycles.proofs.cycle.Goals as goal

pub returns-then-number-ne0 : goal.returns-then-number-ne0
returns-then-number-ne0 c =
    let p = c.prepare-number in
    let a = c.args in
    c.refused.ensures ∙ cycle-off a.sheet.now a.nodes.now a.rows.now p.result p.ensures.value c.if-number-ne0.true a.before a.inputs

pub returns : goal.returns
returns c =
    let p = c.prepare-number in
    let a = c.args in
    c.cycle.ensures
    ∙ cycle-on a.sheet.now a.nodes.now a.rows.now p.ensures.numbers_after (sym p.ensures.value ∙ c.if-number-ne0.false) a.before
    (whole a.before c.well_formed.1.1.1.0) a.inputs
