-- `tabulate::print_line` meets its contract. Assumes nothing.
use Rattle.writing.proofs.Buffer.{both}
use Rattle.writing.specs.Ascii.{ascii}
use Rattle.tabulate.specs.Tabulate.{line}
use borrow.Author.Rules.{rules}
use Rattle.tabulate.proofs.print_line.Goals as goal

pub returns : goal.returns
unfolding ascii line
returns c =
    both _ _ _ _ _ c.put_cycle-p.ensures (both _ _ _ _ _ c.put_entries-q.ensures c.put_word.ensures)
