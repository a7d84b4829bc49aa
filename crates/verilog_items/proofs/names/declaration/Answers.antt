-- `verilog_items::names::declaration` meets its contract. Assumes nothing.
use borrow.Author.Rules.{rules}
use mathlib.Core.Path.{refl}
use Rattle.verilog_items.specs.Items.{declaration}
use Rattle.verilog_items.proofs.names.declaration.Goals as goal

pub returns : goal.returns
unfolding declaration
returns c =
    rw (← c.after-p.ensures, ← c.range_width-width.ensures, ← c.range-names.ensures, ← c.name_list-end.ensures, ← c.expect.ensures) refl
