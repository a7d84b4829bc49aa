-- `verilog_origins::items::variable_place` meets its contract. Assumes nothing.
use borrow.Author.Tests.{lt-ltb, le-ltb}
use Rattle.verilog_origins.specs.Items.{variable_place}
use Rattle.verilog_origins.proofs.items.variable_place.Goals as goal

pub returns-then-v-lt80 : goal.returns-then-v-lt80
unfolding variable_place
returns-then-v-lt80 c =
    rw (lt-ltb _ _ c.if-v-lt80.true) c.declared.ensures

pub returns : goal.returns
unfolding variable_place
returns c =
    rw (le-ltb _ _ c.if-v-lt80.false)
