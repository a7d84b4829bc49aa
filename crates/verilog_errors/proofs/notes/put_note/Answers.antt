-- `verilog_errors::notes::put_note` meets its contract. Assumes nothing.
use borrow.Author.Rules.{rules}
use mathlib.Core.Path.{sym}
use borrow.Author.Tests.{le-leb, lt-leb}
use Rattle.writing.specs.Ascii.{ascii}
use Rattle.writing.proofs.Buffer.{puts-nil}
use Rattle.verilog_errors.specs.Notes.{notes, note_words}
use Rattle.verilog_errors.proofs.Noting.{rest-whole}
use Rattle.verilog_errors.proofs.notes.put_note.Goals as goal

pub returns-then-text-place : goal.returns-then-text-place
unfolding note_words
returns-then-text-place c =
    rw (le-leb _ _ c.if-text-place.true) (sym (puts-nil _))

pub returns : goal.returns
unfolding note_words notes ascii
returns c =
    rw (lt-leb _ _ c.if-text-place.false)
    (rw (
      rest-whole c.args.text.now
          c.args.place,
      c.size_at-n.ensures,
    ) at
    c.put_sentence.ensures)
