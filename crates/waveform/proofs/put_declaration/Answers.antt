-- `waveform::put_declaration` meets its contract, part by part. Assumes nothing.
use mathlib.Core.Path.{sym}
use Rattle.writing.specs.Ascii.{ascii}
use Rattle.writing.proofs.Buffer.{both}
use Rattle.waveform.specs.Waveform.{declaration}
use borrow.Author.Rules.{rules}
use Rattle.waveform.proofs.put_declaration.Goals as goal

pub returns : goal.returns
unfolding ascii declaration
returns c =
    rw (sym c.byte_at.ensures, sym c.ident.ensures)
    (both _ _ _ _ _ c.put_word-p.ensures
    (both _ _ _ _ _ c.put_kind-q.ensures
    (both _ _ _ _ _ c.put_marked-w.ensures
    (both _ _ _ _ _ c.put_byte-s.ensures
    (both _ _ _ _ _ c.put_byte-d.ensures
    (both _ _ _ _ _ c.put_byte-e.ensures
    (both _ _ _ _ _ c.put_name-f.ensures c.put_word.ensures)))))))
