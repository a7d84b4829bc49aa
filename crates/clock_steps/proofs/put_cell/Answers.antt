-- `clock_steps::put_cell` meets its contract. Assumes nothing.
use borrow.Author.Tests.{lt-ltb, le-ltb}
use Rattle.clock_steps.specs.Settling.{put_cell}
use Rattle.clock_steps.proofs.put_cell.Goals as goal

pub returns-then-v-lt80 : goal.returns-then-v-lt80
unfolding put_cell
returns-then-v-lt80 c =
    rw (lt-ltb _ 80 c.if-v-lt80.true)

pub returns-else-v-lt80 : goal.returns-else-v-lt80
unfolding put_cell
returns-else-v-lt80 c =
    rw (le-ltb _ 80 c.if-v-lt80.false)
