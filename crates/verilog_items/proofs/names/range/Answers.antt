-- `verilog_items::names::range` meets its contract. Assumes nothing.
use borrow.Author.Rules.{rules}
use mathlib.Core.Path.{refl, sym, ◌∙◌}
use borrow.Author.Tests.{not-true, not-false}
use Rattle.verilog_items.specs.Items.{bounds, range}
use Rattle.verilog_items.proofs.names.range.Goals as goal

pub returns-then-not-is_next : goal.returns-then-not-is_next
unfolding range
returns-then-not-is_next c =
    rw (sym c.is_next.ensures ∙ c.if-not-is_next.true) refl

pub returns : goal.returns
unfolding range bounds
returns c =
    rw (sym c.is_next.ensures ∙ c.if-not-is_next.false, ← c.after.ensures, ← c.unsigned-n.ensures, ← c.expect.ensures, ← c.naught-z.ensures) c.expect-2.ensures
