-- `waveform::comment_byte` meets its contract. Assumes nothing.
use mathlib.Core.Path.{sym}
use Rattle.waveform.proofs.Waveform.{comment-low, comment-dollar, comment-other}
use Rattle.waveform.proofs.comment_byte.Goals as goal

pub returns-then-b-lt32 : goal.returns-then-b-lt32
returns-then-b-lt32 c =
    sym (comment-low _ c.if-b-lt32.true)

pub returns-then-b-eq36 : goal.returns-then-b-eq36
returns-then-b-eq36 c =
    sym (comment-dollar _ c.if-b-lt32.false c.if-b-eq36.true)

pub returns : goal.returns
returns c =
    sym (comment-other _ c.if-b-lt32.false c.if-b-eq36.false)
