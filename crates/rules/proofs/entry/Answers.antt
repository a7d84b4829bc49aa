-- `rules::entry` meets its contract. Assumes nothing.
use borrow.Author.Tests.{lt-ltb, le-ltb}
use Rattle.rules.specs.Judging.{entry}
use Rattle.rules.proofs.entry.Goals as goal

pub returns-then-v-lt80 : goal.returns-then-v-lt80
unfolding entry
returns-then-v-lt80 c =
    simp (lt-ltb _ _ c.if-v-lt80.true)

pub returns-else-v-lt80 : goal.returns-else-v-lt80
unfolding entry
returns-else-v-lt80 c =
    simp (le-ltb _ _ c.if-v-lt80.false)
