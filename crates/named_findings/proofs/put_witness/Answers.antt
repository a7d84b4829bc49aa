-- `named_findings::put_witness` meets its contract, row by row. Assumes nothing.
use borrow.Author.Rules.{rules}
use borrow.Author.Tests.{eq-eqb, ne_eqb, lt-ltb, le-ltb}
use Rattle.named_findings.specs.Findings.{witness_words}
use Rattle.named_findings.proofs.put_witness.Goals as goal

pub returns-then-w-lt15 : goal.returns-then-w-lt15
unfolding witness_words
returns-then-w-lt15 c =
    rw (lt-ltb _ _ c.if-w-lt15.true) c.put_register.ensures

pub returns-then-w-eq18 : goal.returns-then-w-eq18
unfolding witness_words
returns-then-w-eq18 c =
    rw (le-ltb _ _ c.if-w-lt15.false, eq-eqb _ _ c.if-w-eq18.true)
    c.put_clock.ensures

pub returns-then-w-eq19 : goal.returns-then-w-eq19
unfolding witness_words
returns-then-w-eq19 c =
    rw (
      le-ltb _ _ c.if-w-lt15.false,
      ne_eqb _ _
          c.if-w-eq18.false,
      eq-eqb _ _ c.if-w-eq19.true,
    ) c.put_wire.ensures

pub returns : goal.returns
unfolding witness_words
returns c =
    rw (
      le-ltb _ _ c.if-w-lt15.false,
      ne_eqb _ _
          c.if-w-eq18.false,
      ne_eqb _ _ c.if-w-eq19.false,
    ) c.put_witness.ensures
