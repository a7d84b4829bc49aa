-- `plan::term` meets its contract. Assumes nothing.
use mathlib.Core.Path.{sym, ◌∙◌}
use borrow.Author.Tests.{lt-ltb, le-ltb}
use native.Mathlib.Omega.{arith}
use Rattle.plan.specs.Plan.{terms_at}
use Rattle.plan.proofs.Terms.{term-stands, none-past, none-at}
use Rattle.plan.proofs.term.Goals as goal

pub returns-then-thread-ge8 : goal.returns-then-thread-ge8
unfolding terms_at
returns-then-thread-ge8 c =
    rw (le-ltb _ _ c.if-thread-ge8.true) (c.no_term.ensures ∙ sym (none-at _ _))

pub returns-then-k-ge8 : goal.returns-then-k-ge8
returns-then-k-ge8 c =
    c.no_term-then-k-ge8.ensures ∙ sym (none-past _ _ c.if-k-ge8.true)

pub returns : goal.returns
unfolding terms_at
returns c =
    rw (
      c.term_from.ensures,
      c.slot-first.ensures.value,
      c.low-count.ensures,
      lt-ltb _ _ c.if-thread-ge8.false,
    )
    (sym (term-stands _ _ _ _ (omega (arith, c.if-k-ge8.false))))
