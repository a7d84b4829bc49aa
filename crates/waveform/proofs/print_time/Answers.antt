-- `waveform::print_time` meets its contract. Assumes nothing.
use Rattle.writing.proofs.Buffer.{both}
use Rattle.waveform.specs.Waveform.{time_line}
use borrow.Author.Rules.{rules}
use Rattle.waveform.proofs.print_time.Goals as goal

pub returns : goal.returns
unfolding time_line
returns c =
    both _ _ _ _ _ c.put_marked-p.ensures c.put_byte.ensures
