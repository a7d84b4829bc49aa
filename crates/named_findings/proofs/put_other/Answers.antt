-- `named_findings::put_other` meets its contract, row by row. Assumes nothing.
use borrow.Author.Rules.{rules}
use borrow.Author.Tests.{eq-eqb, ne_eqb}
use Rattle.writing.specs.Ascii.{ascii}
use Rattle.writing.proofs.Buffer.{both}
use Rattle.named_findings.specs.Findings.{other_words}
use Rattle.named_findings.proofs.put_other.Goals as goal

pub returns-then-w-eq12 : goal.returns-then-w-eq12
unfolding ascii other_words
returns-then-w-eq12 c =
    rw (eq-eqb _ _ c.if-w-eq12.true)
    (both _ _ _ _ _ c.put_counted-p.ensures c.put_counted.ensures)

pub returns-then-w-eq13 : goal.returns-then-w-eq13
unfolding ascii other_words
returns-then-w-eq13 c =
    rw (
      ne_eqb _ _ c.if-w-eq12.false,
      eq-eqb _ _
          c.if-w-eq13.true,
    )
    (both _ _ _ _ _ c.put_counted-p-2.ensures c.put_counted-then-w-eq13.ensures)

pub returns-then-w : goal.returns-then-w
unfolding ascii other_words
returns-then-w c =
    rw (
      ne_eqb _ _ c.if-w-eq12.false,
      ne_eqb _ _
          c.if-w-eq13.false,
      c.if-w.true,
    )
    (both _ _ _ _ _ c.put_counted-p-2.ensures
    (rw c.variable-v.ensures at c.put_named.ensures))

pub returns : goal.returns
unfolding ascii other_words
returns c =
    rw (
      ne_eqb _ _ c.if-w-eq12.false,
      ne_eqb _ _
          c.if-w-eq13.false,
      c.if-w.false,
    )
    (both _ _ _ _ _ c.put_counted-p-2.ensures c.put_counted-2.ensures)
