-- `waveform::put_code` meets its contract. Assumes nothing.
use mathlib.Core.Path.{sym}
use Rattle.writing.proofs.Buffer.{both}
use borrow.Author.Rules.{rules}
use Rattle.waveform.proofs.put_code.Goals as goal

pub returns : goal.returns
returns c =
    rw (sym c.ident.ensures) (both _ _ _ _ _ c.put_byte-p.ensures c.put_byte.ensures)
