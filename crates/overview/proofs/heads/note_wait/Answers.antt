-- `overview::heads::note_wait` meets its contract. Assumes nothing.
use borrow.Author.Rules.{rules}
use mathlib.Core.Path.{sym}
use Rattle.overview.proofs.Noting.{notes-nil}
use Rattle.overview.specs.Heads.{head_of}
use Rattle.overview.proofs.heads.note_wait.Goals as goal

pub returns-in-Wait : goal.returns-in-Wait
unfolding head_of
returns-in-Wait c =
    rw c.in-Wait.is c.note.ensures

pub returns-in-Act : goal.returns-in-Act
unfolding head_of
returns-in-Act c =
    rw c.in-Act.is (sym (notes-nil _))
