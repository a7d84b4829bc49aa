-- `findings::put_wait` meets its contract, row by row. Assumes nothing.
use borrow.Author.Rules.{rules}
use borrow.Author.Tests.{eq-eqb, ne_eqb}
use Rattle.writing.specs.Ascii.{ascii}
use Rattle.writing.proofs.Buffer.{both}
use Rattle.findings.specs.Findings.{wait_words}
use Rattle.findings.proofs.put_wait.Goals as goal

pub returns-then-w-eq15 : goal.returns-then-w-eq15
unfolding ascii wait_words
returns-then-w-eq15 c =
    rw (eq-eqb _ _ c.if-w-eq15.true) c.put_two.ensures

pub returns-then-w-eq20 : goal.returns-then-w-eq20
unfolding ascii wait_words
returns-then-w-eq20 c =
    rw (
      ne_eqb _ _ c.if-w-eq15.false,
      eq-eqb _ _ c.if-w-eq20.true,
    ) c.put_two-then-w-eq20.ensures

pub returns : goal.returns
unfolding ascii wait_words
returns c =
    rw (
      ne_eqb _ _ c.if-w-eq15.false,
      ne_eqb _ _ c.if-w-eq20.false,
    )
    (both _ _ _ _ _ c.put_two-p.ensures c.put_word.ensures)
