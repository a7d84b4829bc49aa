-- `tabulate::put_shown` meets its contract. Assumes nothing.
use mathlib.Core.Path.{sym, ◌∙◌}
use Rattle.values.specs.Planes.{number_of}
use Rattle.writing.proofs.Buffer.{both}
use Rattle.tabulate.specs.Tabulate.{shown}
use borrow.Author.Rules.{rules}
use Rattle.tabulate.proofs.put_shown.Goals as goal

pub returns-then-is_known : goal.returns-then-is_known
unfolding shown number_of
returns-then-is_known c =
    rw (sym c.is_known.ensures ∙ c.if-is_known.true) c.put_number.ensures

pub returns-then-is_x : goal.returns-then-is_x
unfolding shown
returns-then-is_x c =
    rw (sym c.is_known.ensures ∙ c.if-is_known.false, sym c.is_x.ensures ∙ c.if-is_x.true) c.put_byte.ensures

pub returns : goal.returns
unfolding shown
returns c =
    rw (sym c.is_known.ensures ∙ c.if-is_known.false, sym c.is_x.ensures ∙ c.if-is_x.false)
    (both _ _ _ _ _ c.put_lead-p.ensures c.put_value.ensures)
