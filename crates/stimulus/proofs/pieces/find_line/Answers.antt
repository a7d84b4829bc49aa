-- `stimulus::pieces::find_line` meets its contract, row by row. Assumes nothing.
use borrow.Author.Tests.{lt-ltb, le-ltb}
use Rattle.stimulus.specs.Waiting.{waiting}
use Rattle.stimulus.proofs.pieces.find_line.Goals as goal

pub returns-then-end-to : goal.returns-then-end-to
unfolding waiting
returns-then-end-to c =
    rw (← c.line_end-end.ensures, lt-ltb _ _ c.if-end-to.true)

pub returns-then-from-to : goal.returns-then-from-to
unfolding waiting
returns-then-from-to c =
    rw (← c.line_end-end.ensures, le-ltb _ _ c.if-end-to.false, c.if-ended.true, lt-ltb _ _ c.if-from-to.true)

pub returns-then-ended : goal.returns-then-ended
unfolding waiting
returns-then-ended c =
    rw (← c.line_end-end.ensures, le-ltb _ _ c.if-end-to.false, c.if-ended.true, le-ltb _ _ c.if-from-to.false)

pub returns : goal.returns
unfolding waiting
returns c =
    rw (← c.line_end-end.ensures, le-ltb _ _ c.if-end-to.false, c.if-ended.false) c.unended.ensures
