-- `stimulus::numbers::number_of` meets its contract. The loop's invariant: the digits from `i` on make the number what the whole makes it.
-- Assumes nothing.
use mathlib.Core.Path.{refl, sym, ap, ◌∙◌}
use Prim.Native.Nat.{◌+◌}
use lib.ListN.{drop}
use Rattle.stimulus.specs.declared.Number.{Number}
use Rattle.stimulus.specs.Numbers.{grown_by, number_of}
use Rattle.stimulus.proofs.Digits.{grown-turn, grown-done}
use Rattle.stimulus.proofs.numbers.number_of.Goals as goal

pub loop-i-init : goal.loop-i-init
unfolding number_of
loop-i-init c =
    refl

pub loop-i-preserved : goal.loop-i-preserved
loop-i-preserved c =
    let p = c.args in
    ap (λ (x : Number). grown_by p.hex x (drop (c.loop-i.i + 1) p.word.now)) c.grown-a.ensures
    ∙ sym (grown-turn p.hex c.loop-i.a p.word.now c.loop-i.i c.loop-i-test.true)
    ∙ c.loop-i.invariant

pub returns : goal.returns
returns c =
    sym (grown-done _ _ _ _ c.loop-i-test.false) ∙ c.loop-i.invariant
