-- `tabulate::column_width` meets its contract. Assumes nothing.
use Rattle.tabulate.specs.Tabulate.{column_width}
use borrow.Author.Rules.{rules}
use Rattle.tabulate.proofs.column_width.Goals as goal

pub returns : goal.returns
unfolding column_width
returns c =
    rw (
      c.longer.ensures,
      c.name_length-n.ensures,
      c.places-d.ensures,
      c.byte_at.ensures,
    )
