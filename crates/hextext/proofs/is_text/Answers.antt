-- `hextext::is_text` meets its contract. The loop's invariant: the rest from `i` on is text exactly if the whole is.
-- Assumes nothing.
use native.Mathlib.Omega.{arith}
use mathlib.Core.Path.{refl, sym, ◌∙◌}
use Rattle.hextext.proofs.Characters.{digit-is, digit_not, text-mark, text-digit, text-other, text-gap, text-end}
use Rattle.hextext.proofs.is_text.Goals as goal
use Rattle.hextext.proofs.is_text.Goals.{then-b-eq35-via-then-b-eq35, then-b-eq35-via-else-b-eq35+then-digit_of-lt16}

pub loop-b-init : goal.loop-b-init
loop-b-init c =
    (omega arith, refl)

pub returns-then-b-eq35 : goal.returns-then-b-eq35
returns-then-b-eq35 c =
    sym (elim c.then-b-eq35.branch [
      | then-b-eq35-via-then-b-eq35 w ↦ text-mark c.args.bytes.now c.loop-b.b-index c.loop-b-test.true w.if-b-eq35.true
      | then-b-eq35-via-else-b-eq35+then-digit_of-lt16 w ↦ (
          let e = w.digit_of.ensures in
          text-digit c.args.bytes.now c.loop-b.b-index c.loop-b-test.true w.if-b-eq35.false (digit-is _ (omega arith)))
    ])
    ∙ c.loop-b.invariant.1

pub returns-then-not-is_gap : goal.returns-then-not-is_gap
returns-then-not-is_gap c =
    let e = c.digit_of.ensures in
    sym
    (text-other c.args.bytes.now c.loop-b.b-index c.loop-b-test.true c.if-b-eq35.false
    (digit_not _ (omega arith)) (sym c.is_gap.ensures ∙ c.if-not-is_gap.true))
    ∙ c.loop-b.invariant.1

pub loop-b-preserved : goal.loop-b-preserved
loop-b-preserved c =
    let e = c.digit_of.ensures in (
      omega arith,
      sym
          (text-gap c.args.bytes.now c.loop-b.b-index c.loop-b-test.true c.if-b-eq35.false
          (digit_not _ (omega arith)) (sym c.is_gap.ensures ∙ c.if-not-is_gap.false))
          ∙ c.loop-b.invariant.1,
    )

pub returns : goal.returns
returns c =
    sym (text-end c.args.bytes.now c.loop-b.b-index c.loop-b-test.false) ∙ c.loop-b.invariant.1
