-- `tabulate::put_gap` meets its contract. Assumes nothing.
use mathlib.Core.Path.{sym}
use Rattle.writing.proofs.Buffer.{both}
use Rattle.writing.specs.Ascii.{ascii}
use Rattle.tabulate.specs.Tabulate.{gap}
use borrow.Author.Rules.{rules}
use Rattle.tabulate.proofs.put_gap.Goals as goal

pub returns-then-csv : goal.returns-then-csv
unfolding ascii gap
returns-then-csv c =
    rw c.if-csv.true c.put_word.ensures

pub returns : goal.returns
unfolding ascii gap
returns c =
    rw c.if-csv.false (rw (sym c.saturating_sub.ensures) (both _ _ _ _ _ c.put_word-p.ensures c.put_many.ensures))
