-- `stimulus::numbers::bits_of` meets its contract. The loop's invariant: the digits from `i` on make the bits what the whole makes them.
-- Assumes nothing.
use native.Mathlib.Nat.{add-zero}
use mathlib.Core.Bool.{true}
use mathlib.Core.Path.{sym, ap, ◌∙◌}
use Prim.Native.Nat.{◌+◌}
use lib.ListN.{get_or, drop}
use lib.Seq.{get_or-drop}
use Rattle.stimulus.specs.declared.Bits.{Bits}
use Rattle.stimulus.specs.Numbers.{bits, spelt_by, ahead, bits_of}
use Rattle.stimulus.proofs.Digits.{spelt-turn, spelt-done}
use Rattle.stimulus.proofs.numbers.bits_of.Goals as goal

pub loop-i-init : goal.loop-i-init
unfolding bits_of
loop-i-init c =
    let p = c.args in
    let w = p.word.now in
    ap (λ m. spelt_by (bits true 0 m) (drop p.from w))
    (c.ahead.ensures ∙ ap ahead (c.byte_at.ensures ∙ sym (get_or-drop p.from w 0 0 ∙ ap (λ i. get_or w i 0) (add-zero p.from))))

pub loop-i-preserved : goal.loop-i-preserved
loop-i-preserved c =
    let p = c.args in
    ap (λ (x : Bits). spelt_by x (drop (c.loop-i.i + 1) p.word.now)) c.spelt-a.ensures
    ∙ sym (spelt-turn c.loop-i.a p.word.now c.loop-i.i c.loop-i-test.true)
    ∙ c.loop-i.invariant

pub returns : goal.returns
returns c =
    sym (spelt-done _ _ _ c.loop-i-test.false) ∙ c.loop-i.invariant
