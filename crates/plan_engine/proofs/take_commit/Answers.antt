-- `plan_engine::take_commit` meets its contract. Assumes nothing.
use mathlib.Core.Path.{sym, ◌∙◌}
use borrow.Author.Tests.{not-true, not-false}
use Rattle.plan_engine.proofs.Taking.{commit-thread, commit-wire, commit-none, commit-full, commit-all}
use borrow.Author.Rules.{rules}
use Rattle.plan_engine.proofs.take_commit.Goals as goal

pub returns-then-any : goal.returns-then-any
returns-then-any c =
    commit-thread _ _ _ (sym c.any.ensures ∙ c.if-any.true)

pub returns-then-any-2 : goal.returns-then-any-2
returns-then-any-2 c =
    commit-wire _ _ _ (sym c.any-2.ensures ∙ c.if-any-2.true)

pub returns-then-not-any : goal.returns-then-not-any
returns-then-not-any c =
    commit-none _ _ _ (sym c.any.ensures ∙ c.if-any.false) (sym c.any-2.ensures ∙ c.if-any-2.false)
    (sym c.any-3.ensures ∙ c.if-not-any.true)

pub returns-then-room-eq0 : goal.returns-then-room-eq0
returns-then-room-eq0 c =
    commit-full _ _ _ (sym c.any.ensures ∙ c.if-any.false) (sym c.any-2.ensures ∙ c.if-any-2.false)
    (sym c.any-3.ensures ∙ c.if-not-any.false) c.if-room-eq0.true

pub returns : goal.returns
returns c =
    commit-all _ _ _ (sym c.any.ensures ∙ c.if-any.false) (sym c.any-2.ensures ∙ c.if-any-2.false) _
    (sym c.any-3.ensures ∙ c.if-not-any.false) c.if-room-eq0.false c.commit-marks.ensures
