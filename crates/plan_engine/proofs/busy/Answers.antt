-- `plan_engine::busy` meets its contract. Assumes nothing.
use mathlib.Core.Path.{sym, ◌∙◌}
use Rattle.plan_engine.proofs.Running.{busy-thread, busy-wire, busy-held}
use borrow.Author.Rules.{rules}
use Rattle.plan_engine.proofs.busy.Goals as goal

pub returns-then-any : goal.returns-then-any
returns-then-any c =
    λ cs ns ps. busy-thread _ (sym c.any.ensures ∙ c.if-any.true)

pub returns-then-any-2 : goal.returns-then-any-2
returns-then-any-2 c =
    λ cs ns ps. busy-wire _ (sym c.any-2.ensures ∙ c.if-any-2.true)

pub returns : goal.returns
returns c =
    λ cs ns ps.
    c.any-3.ensures
    ∙ busy-held _ (sym c.any.ensures ∙ c.if-any.false) (sym c.any-2.ensures ∙ c.if-any-2.false)
