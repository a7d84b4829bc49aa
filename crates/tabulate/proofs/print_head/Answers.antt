-- `tabulate::print_head` meets its contract. Assumes nothing.
use Rattle.writing.proofs.Buffer.{both}
use Rattle.writing.specs.Ascii.{ascii}
use Rattle.tabulate.specs.Tabulate.{head_line}
use borrow.Author.Rules.{rules}
use Rattle.tabulate.proofs.print_head.Goals as goal

pub returns : goal.returns
unfolding ascii head_line
returns c =
    both _ _ _ _ _ c.put_cycle_title-p.ensures (both _ _ _ _ _ c.put_titles-q.ensures c.put_word.ensures)
