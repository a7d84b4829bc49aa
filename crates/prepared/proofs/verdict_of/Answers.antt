-- `prepared::verdict_of` meets its contract: each way through the code is a law of proofs/Ways. Assumes nothing.
use mathlib.Core.Path.{sym, ◌∙◌}
use Rattle.prepared.proofs.Ways.{verdict-stopped, verdict-spent, verdict-quiet}
use Rattle.prepared.proofs.verdict_of.Goals as goal

pub returns-then-number-ne0 : goal.returns-then-number-ne0
returns-then-number-ne0 c =
    λ cs ns ps. verdict-stopped _ _ c.if-number-ne0.true

pub returns-then-busy : goal.returns-then-busy
returns-then-busy c =
    λ cs ns ps. verdict-spent _ _ c.if-number-ne0.false (sym (c.busy.ensures cs ns ps) ∙ c.if-busy.true)

pub returns : goal.returns
returns c =
    λ cs ns ps. verdict-quiet _ _ c.if-number-ne0.false (sym (c.busy.ensures cs ns ps) ∙ c.if-busy.false)
