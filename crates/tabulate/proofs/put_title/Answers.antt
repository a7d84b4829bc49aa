-- `tabulate::put_title` meets its contract. Assumes nothing.
use mathlib.Core.Path.{sym}
use Rattle.writing.proofs.Buffer.{both}
use Rattle.tabulate.specs.Tabulate.{title, cell}
use borrow.Author.Rules.{rules}
use Rattle.tabulate.proofs.put_title.Goals as goal

pub returns : goal.returns
unfolding title cell
returns c =
    rw (sym c.column_width-width.ensures, sym c.name_length-n.ensures) (both _ _ _ _ _ c.put_gap-p.ensures c.put_name.ensures)
