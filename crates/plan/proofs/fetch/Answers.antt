-- `plan::fetch` meets its contract. Assumes nothing.
use borrow.Author.Tests.{lt-ltb, le-ltb, ne_eqb}
use Rattle.plan.specs.Plan.{decode, fetch_at}
use Rattle.plan.proofs.fetch.Goals as goal

pub returns-then-thread-ge8 : goal.returns-then-thread-ge8
unfolding fetch_at decode
returns-then-thread-ge8 c =
    rw (le-ltb _ _ c.if-thread-ge8.true)

pub returns-in-0 : goal.returns-in-0
unfolding fetch_at decode
returns-in-0 c =
    rw (
      c.terms_from.ensures,
      c.slot-first.ensures.value,
      c.low-number.ensures,
      lt-ltb _ _ c.if-thread-ge8.false,
      c.in-0.is,
    )

pub returns-in-1 : goal.returns-in-1
unfolding fetch_at decode
returns-in-1 c =
    rw (
      c.slot-root.ensures.value,
      c.slot-first.ensures.value,
      c.low-number.ensures,
      lt-ltb _ _ c.if-thread-ge8.false,
      c.in-1.is,
    )

pub returns-in-2 : goal.returns-in-2
unfolding fetch_at decode
returns-in-2 c =
    rw (
      c.slot-root.ensures.value,
      c.slot-first.ensures.value,
      c.low-number.ensures,
      lt-ltb _ _ c.if-thread-ge8.false,
      c.in-2.is,
    )

pub returns-in-3 : goal.returns-in-3
unfolding fetch_at decode
returns-in-3 c =
    rw (
      c.low-number.ensures,
      lt-ltb _ _ c.if-thread-ge8.false,
      c.in-3.is,
    )

pub returns-in_default : goal.returns-in_default
unfolding fetch_at decode
returns-in_default c =
    simp (
      c.slot-root.ensures.value,
      c.slot-first.ensures.value,
      c.low-number.ensures,
      lt-ltb _ _ c.if-thread-ge8.false,
      ne_eqb _ _ c.in_default.in_default-own.rest.0.0.0.1,
      ne_eqb _ _ c.in_default.in_default-own.rest.0.0.1,
      ne_eqb _ _ c.in_default.in_default-own.rest.0.1,
      ne_eqb _ _ c.in_default.in_default-own.rest.1,
    )
