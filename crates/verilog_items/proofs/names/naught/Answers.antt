-- `verilog_items::names::naught` meets its contract. Assumes nothing.
use borrow.Author.Rules.{rules}
use mathlib.Core.Path.{refl, sym, ◌∙◌}
use borrow.Author.Tests.{eq-eqb, ne_eqb, not-true, not-false}
use Rattle.verilog_items.specs.Items.{naught}
use Rattle.verilog_items.proofs.names.naught.Goals as goal

pub returns-then-not-is_number : goal.returns-then-not-is_number
unfolding naught
returns-then-not-is_number c =
    rw (sym c.is_number.ensures ∙ c.if-not-is_number.true) c.refused.ensures

pub returns-then-number_at-eq0 : goal.returns-then-number_at-eq0
unfolding naught
returns-then-number_at-eq0 c =
    rw (sym c.is_number.ensures ∙ c.if-not-is_number.false, ← c.number_at.ensures, eq-eqb _ _ c.if-number_at-eq0.true) c.after.ensures

pub returns : goal.returns
unfolding naught
returns c =
    rw (sym c.is_number.ensures ∙ c.if-not-is_number.false, ← c.number_at.ensures, ne_eqb _ _ c.if-number_at-eq0.false) c.refused-2.ensures
