-- `verilog_items::names::heading` meets its contract. Assumes nothing.
use borrow.Author.Rules.{rules}
use mathlib.Core.Path.{refl}
use Rattle.verilog_items.specs.Items.{heading}
use Rattle.verilog_items.proofs.names.heading.Goals as goal

pub returns : goal.returns
unfolding heading
returns c =
    rw (← c.expect.ensures, ← c.ident-name.ensures, ← c.expect-ports.ensures, ← c.name_list-end.ensures, ← c.expect-2.ensures, ← c.expect-3.ensures) refl
