-- `tabulate::put_entries` meets its contract. The loop's invariant: what is still to be put gives the whole. Assumes nothing.
use mathlib.Core.Path.{◌≡◌, refl, sym, ◌∙◌}
use lib.ListN.{length, drop}
use borrow.Author.Rules.{rules}
use Rattle.values.specs.Cells.{cell_at}
use Rattle.writing.specs.Buffer.{filled, puts}
use Rattle.tabulate.specs.Tabulate.{entry, columns}
use Rattle.tabulate.proofs.Tabulate.{columns-next, columns-done}
use Rattle.tabulate.proofs.put_entries.Given as goal

abbrev pub invariant-loop-v : goal.invariant-loop-v
invariant-loop-v l =
    puts (filled l.text l.p) (columns (entry l.form l.widths l.names (cell_at l.row)) (drop l.v-index l.vs))
    ≡ puts (filled l.initial.text l.pos) (columns (entry l.form l.widths l.names (cell_at l.row)) l.vs)
