-- `clock_run::word_of` meets its contract, by the kinds of words. Assumes nothing.
use mathlib.Core.Path.{refl}
use native.Mathlib.Omega.{arith}
use Rattle.clock_run.proofs.Turns.{word-clock, word-place, word_cell, word-past}
use Rattle.clock_run.proofs.word_of.Goals as goal

pub returns-then-k-eq0 : goal.returns-then-k-eq0
returns-then-k-eq0 c =
    word-clock _ _ _ _ _ c.if-k-eq0.true

pub returns-then-k-ge80 : goal.returns-then-k-ge80
returns-then-k-ge80 c =
    word-place _ _ _ _ _ c.if-k-eq0.false c.if-k-ge80.true refl

pub returns-then-k-end : goal.returns-then-k-end
returns-then-k-end c =
    word_cell _ _ _ _ _ c.if-k-eq0.false
    (omega (arith, c.if-k-ge80.false)) c.if-k-end.true c.load.ensures
    c.store.ensures

pub returns : goal.returns
returns c =
    word-past _ _ _ _ _ c.if-k-eq0.false (omega (arith, c.if-k-ge80.false)) (omega (arith, c.if-k-end.false))
