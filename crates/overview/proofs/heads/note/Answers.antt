-- `overview::heads::note` meets its contract. Assumes nothing.
use borrow.Author.Rules.{rules}
use mathlib.Core.Path.{sym}
use Rattle.overview.proofs.Noting.{note-in, note-full}
use Rattle.overview.proofs.heads.note.Goals as goal

pub returns-then-k-lt32 : goal.returns-then-k-lt32
returns-then-k-lt32 c =
    sym (note-in _ _ c.if-k-lt32.true)

pub returns : goal.returns
returns c =
    sym (note-full _ _ c.if-k-lt32.false)
