-- `tabulate::put_cycle_title` meets its contract. Assumes nothing.
use Rattle.writing.specs.Ascii.{ascii}
use Rattle.tabulate.specs.Tabulate.{cycle_title}
use borrow.Author.Rules.{rules}
use Rattle.tabulate.proofs.put_cycle_title.Goals as goal

pub returns-then-csv : goal.returns-then-csv
unfolding ascii cycle_title
returns-then-csv c =
    rw c.if-csv.true c.put_word.ensures

pub returns : goal.returns
unfolding ascii cycle_title
returns c =
    rw c.if-csv.false c.put_word-2.ensures
