-- `tabulate::put_entry` meets its contract. Assumes nothing.
use mathlib.Core.Path.{sym}
use Rattle.writing.proofs.Buffer.{both}
use Rattle.tabulate.specs.Tabulate.{cell}
use borrow.Author.Rules.{rules}
use Rattle.tabulate.proofs.put_entry.Goals as goal

pub returns : goal.returns
unfolding cell
returns c =
    rw (
      sym c.column_width-width.ensures,
      sym c.byte_at-bits.ensures,
      sym c.shown_length-n.ensures,
    )
    (both _ _ _ _ _ c.put_gap-p.ensures c.put_shown.ensures)
