-- `findings::put_witness` meets its contract, row by row. Assumes nothing.
use borrow.Author.Rules.{rules}
use borrow.Author.Tests.{eq-eqb, ne_eqb}
use Rattle.findings.specs.Findings.{witness_words}
use Rattle.findings.proofs.put_witness.Goals as goal

pub returns-then-w-eq12 : goal.returns-then-w-eq12
unfolding witness_words
returns-then-w-eq12 c =
    rw (eq-eqb _ _ c.if-w-eq12.true) c.put_register.ensures

pub returns-then-w-eq13 : goal.returns-then-w-eq13
unfolding witness_words
returns-then-w-eq13 c =
    rw (ne_eqb _ _ c.if-w-eq12.false, eq-eqb _ _ c.if-w-eq13.true)
    c.put_register-then-w-eq13.ensures

pub returns-then-w-eq14 : goal.returns-then-w-eq14
unfolding witness_words
returns-then-w-eq14 c =
    rw (
      ne_eqb _ _ c.if-w-eq12.false,
      ne_eqb _ _ c.if-w-eq13.false,
      eq-eqb _ _ c.if-w-eq14.true,
    ) c.put_register-then-w-eq14.ensures

pub returns : goal.returns
unfolding witness_words
returns c =
    rw (
      ne_eqb _ _ c.if-w-eq12.false,
      ne_eqb _ _ c.if-w-eq13.false,
      ne_eqb _ _ c.if-w-eq14.false,
    ) c.put_rest.ensures
