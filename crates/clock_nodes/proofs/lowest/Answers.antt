-- `clock_nodes::lowest` meets its contract, by the kind. Assumes nothing.
use borrow.Author.Tests.{lt-ltb, le-ltb}
use Rattle.clock_nodes.specs.Copying.{lowest}
use Rattle.clock_nodes.proofs.lowest.Goals as goal

pub returns-then-k-lt11 : goal.returns-then-k-lt11
unfolding lowest
returns-then-k-lt11 c =
    rw (lt-ltb _ 11 c.if-k-lt11.true)

pub returns-then-k-lt13 : goal.returns-then-k-lt13
unfolding lowest
returns-then-k-lt13 c =
    rw (le-ltb _ 11 c.if-k-lt11.false, lt-ltb _ 13 c.if-k-lt13.true) c.lower-y.ensures

pub returns-then-k-lt20 : goal.returns-then-k-lt20
unfolding lowest
returns-then-k-lt20 c =
    rw (
      le-ltb _ 11 c.if-k-lt11.false,
      le-ltb _ 13 c.if-k-lt13.false,
      lt-ltb _ 20 c.if-k-lt20.true,
      ← c.lower-y.ensures,
    ) c.lower-z.ensures

pub returns : goal.returns
unfolding lowest
returns c =
    rw (
      le-ltb _ 11 c.if-k-lt11.false,
      le-ltb _ 13 c.if-k-lt13.false,
      le-ltb _ 20 c.if-k-lt20.false,
      ← c.lower-y.ensures,
      ← c.lower-z.ensures,
    )
    c.lower.ensures
