-- `waveform::print_all` meets its contract. Assumes nothing.
use Rattle.writing.specs.Ascii.{ascii}
use Rattle.writing.proofs.Buffer.{both}
use Rattle.waveform.specs.Waveform.{all_values}
use borrow.Author.Rules.{rules}
use Rattle.waveform.proofs.print_all.Goals as goal

pub returns : goal.returns
unfolding ascii all_values
returns c =
    both _ _ _ _ _ c.put_word-p.ensures
    (both _ _ _ _ _ c.put_values-q.ensures c.put_word.ensures)
