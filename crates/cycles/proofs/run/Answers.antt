-- `cycles::run` meets its contract: what `prepare` refuses, and the call on what it filled. Assumes nothing.
use mathlib.Core.Path.{sym, ap, ◌∙◌}
use Rattle.cycles.specs.Many.{ended}
use Rattle.cycles.specs.Claims.{cycled_of}
use Rattle.cycles.proofs.Claims.{cycles-off, cycles-on, whole}
use Rattle.cycles.proofs.run.Goals as goal

pub returns-then-number-ne0 : goal.returns-then-number-ne0
returns-then-number-ne0 c =
    let p = c.prepare-number in
    let a = c.args in
    c.ended.ensures
    ∙ ap (ended 0 p.result) c.refused.ensures
    ∙ cycles-off a.sheet.now a.nodes.now a.rows.now p.result p.ensures.value c.if-number-ne0.true a.before a.value.now a.unknown.now

pub returns : goal.returns
returns c =
    let p = c.prepare-number in
    let a = c.args in
    c.cycled_of.ensures
    ∙ ap cycled_of c.cycles-r.ensures
    ∙ cycles-on a.sheet.now a.nodes.now a.rows.now p.ensures.numbers_after (sym p.ensures.value ∙ c.if-number-ne0.false) a.before
    (whole a.before c.well_formed.1.1.1.0) a.value.now a.unknown.now
