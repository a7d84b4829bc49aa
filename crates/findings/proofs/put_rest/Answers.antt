-- `findings::put_rest` meets its contract, row by row. Assumes nothing.
use borrow.Author.Rules.{rules}
use borrow.Author.Tests.{eq-eqb, ne_eqb}
use Rattle.writing.specs.Ascii.{ascii}
use Rattle.findings.specs.Findings.{rest_words}
use Rattle.findings.proofs.put_rest.Goals as goal

pub returns-then-w-eq18 : goal.returns-then-w-eq18
unfolding rest_words
returns-then-w-eq18 c =
    rw (eq-eqb _ _ c.if-w-eq18.true) c.put_clock.ensures

pub returns-then-w-eq19 : goal.returns-then-w-eq19
unfolding ascii rest_words
returns-then-w-eq19 c =
    rw (
      ne_eqb _ _ c.if-w-eq18.false,
      eq-eqb _ _ c.if-w-eq19.true,
    ) c.put_two.ensures

pub returns-then-w-eq16 : goal.returns-then-w-eq16
unfolding rest_words
returns-then-w-eq16 c =
    rw (
      ne_eqb _ _ c.if-w-eq18.false,
      ne_eqb _ _ c.if-w-eq19.false,
      eq-eqb _ _ c.if-w-eq16.true,
    ) c.put_thread.ensures

pub returns-then-w-eq17 : goal.returns-then-w-eq17
unfolding rest_words
returns-then-w-eq17 c =
    rw (
      ne_eqb _ _ c.if-w-eq18.false,
      ne_eqb _ _ c.if-w-eq19.false,
      ne_eqb _ _ c.if-w-eq16.false,
      eq-eqb _ _ c.if-w-eq17.true,
    ) c.put_thread-then-w-eq17.ensures

pub returns : goal.returns
unfolding rest_words
returns c =
    rw (
      ne_eqb _ _ c.if-w-eq18.false,
      ne_eqb _ _ c.if-w-eq19.false,
      ne_eqb _ _ c.if-w-eq16.false,
      ne_eqb _ _ c.if-w-eq17.false,
    ) c.put_wait.ensures
