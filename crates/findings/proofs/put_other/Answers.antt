-- `findings::put_other` meets its contract, row by row. Assumes nothing.
use borrow.Author.Rules.{rules}
use borrow.Author.Tests.{eq-eqb, ne_eqb}
use Rattle.writing.specs.Ascii.{ascii}
use Rattle.findings.specs.Findings.{other_words}
use Rattle.findings.proofs.put_other.Goals as goal

pub returns-then-w-eq12 : goal.returns-then-w-eq12
unfolding ascii other_words
returns-then-w-eq12 c =
    rw (eq-eqb _ _ c.if-w-eq12.true) c.put_two.ensures

pub returns-then-w-eq13 : goal.returns-then-w-eq13
unfolding ascii other_words
returns-then-w-eq13 c =
    rw (
      ne_eqb _ _ c.if-w-eq12.false,
      eq-eqb _ _ c.if-w-eq13.true,
    ) c.put_two-then-w-eq13.ensures

pub returns-then-w : goal.returns-then-w
unfolding ascii other_words
returns-then-w c =
    rw (
      ne_eqb _ _ c.if-w-eq12.false,
      ne_eqb _ _ c.if-w-eq13.false,
      c.if-w.true,
    )
    c.put_two-then-w.ensures

pub returns : goal.returns
unfolding ascii other_words
returns c =
    rw (
      ne_eqb _ _ c.if-w-eq12.false,
      ne_eqb _ _ c.if-w-eq13.false,
      c.if-w.false,
    )
    c.put_two-2.ensures
