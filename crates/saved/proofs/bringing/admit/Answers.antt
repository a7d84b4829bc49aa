-- `saved::bringing::admit` meets its contract. Assumes nothing.
use borrow.Author.Tests.{le-leb, lt-leb}
use Rattle.state.specs.State.{count_of, allowance_of}
use Rattle.saved.specs.Older.{taken, admitted}
use Rattle.saved.proofs.bringing.admit.Goals as goal

pub returns-then-counters : goal.returns-then-counters
unfolding admitted taken count_of allowance_of
returns-then-counters c =
    rw (le-leb _ _ c.if-counters.true)

pub returns : goal.returns
unfolding admitted count_of allowance_of
returns c =
    rw (lt-leb _ _ c.if-counters.false) c.refused.ensures
