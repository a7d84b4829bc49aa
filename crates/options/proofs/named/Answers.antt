-- `options::named` meets its contract. Assumes nothing.
use borrow.Author.Tests.{eq-eqb, ne_eqb}
use Rattle.options.specs.Options.{named, with_command}
use Rattle.options.proofs.named.Goals as goal

pub returns-then-n-eq0 : goal.returns-then-n-eq0
unfolding named with_command
returns-then-n-eq0 c =
    rw (eq-eqb _ _ c.if-n-eq0.true) c.misplaced.ensures

pub returns-then-n-eq7 : goal.returns-then-n-eq7
unfolding named with_command
returns-then-n-eq7 c =
    rw (
      ne_eqb _ _ c.if-n-eq0.false,
      eq-eqb _ _ c.if-n-eq7.true,
    )
    c.noted.ensures

pub returns : goal.returns
unfolding named with_command
returns c =
    rw (
      ne_eqb _ _ c.if-n-eq0.false,
      ne_eqb _ _ c.if-n-eq7.false,
    )
