-- `waveform::put_front` meets its contract. Assumes nothing.
use Rattle.writing.specs.Ascii.{ascii}
use Rattle.writing.proofs.Buffer.{both}
use Rattle.waveform.specs.Waveform.{front}
use borrow.Author.Rules.{rules}
use Rattle.waveform.proofs.put_front.Goals as goal

pub returns : goal.returns
unfolding ascii front
returns c =
    both _ _ _ _ _ c.put_word-p.ensures
    (both _ _ _ _ _ c.put_comment-q.ensures c.put_word.ensures)
