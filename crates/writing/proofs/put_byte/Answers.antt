-- `writing::put_byte` meets its contract. Assumes nothing.
use mathlib.Core.Path.{sym}
use Rattle.writing.specs.Buffer.{puts}
use Rattle.writing.proofs.Buffer.{put_in, put_full}
use Rattle.writing.proofs.put_byte.Goals as goal

pub returns-then-pos-lt65536 : goal.returns-then-pos-lt65536
unfolding puts
returns-then-pos-lt65536 c =
    sym (put_in _ _ c.if-pos-lt65536.true)

pub returns : goal.returns
unfolding puts
returns c =
    sym (put_full _ _ c.if-pos-lt65536.false)
