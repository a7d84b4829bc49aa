-- `waveform::print_header` meets its contract. Assumes nothing.
use Rattle.writing.specs.Ascii.{ascii}
use Rattle.writing.proofs.Buffer.{both}
use Rattle.waveform.specs.Waveform.{header}
use borrow.Author.Rules.{rules}
use Rattle.waveform.proofs.print_header.Goals as goal

pub returns : goal.returns
unfolding ascii header
returns c =
    both _ _ _ _ _ c.put_front-p.ensures
    (both _ _ _ _ _ c.put_declarations-q.ensures c.put_word.ensures)
