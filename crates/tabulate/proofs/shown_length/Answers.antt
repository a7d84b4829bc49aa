-- `tabulate::shown_length` meets its contract. Assumes nothing.
use mathlib.Core.Path.{sym, ap₂, ◌∙◌}
use Prim.Native.Nat.{◌+◌}
use lib.ListN.{length-append}
use Rattle.values.specs.Planes.{number_of}
use Rattle.binary_text.specs.BinaryText.{bits_of}
use Rattle.binary_text.proofs.BinaryText.{length-bits-of}
use Rattle.tabulate.specs.Tabulate.{lead, shown}
use borrow.Author.Rules.{rules}
use Rattle.tabulate.proofs.shown_length.Goals as goal

pub returns-then-is_known : goal.returns-then-is_known
unfolding shown number_of
returns-then-is_known c =
    rw (sym c.is_known.ensures ∙ c.if-is_known.true) c.number_length.ensures

pub returns-then-is_x : goal.returns-then-is_x
unfolding shown
returns-then-is_x c =
    rw (sym c.is_known.ensures ∙ c.if-is_known.false, sym c.is_x.ensures ∙ c.if-is_x.true)

pub returns : goal.returns
unfolding shown
returns c =
    let a = c.args in
    rw (sym c.is_known.ensures ∙ c.if-is_known.false, sym c.is_x.ensures ∙ c.if-is_x.false)
    (ap₂ ◌+◌ c.lead_length.ensures.value (sym (length-bits-of a.width a.a))
    ∙ sym (length-append (lead a.base) (bits_of a.width a.a)))
