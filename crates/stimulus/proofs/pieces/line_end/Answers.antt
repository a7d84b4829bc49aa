-- `stimulus::pieces::line_end` meets its contract. The loop's invariant: the search from `i` on finds what the whole finds.
-- Assumes nothing.
use native.Mathlib.Omega.{arith}
use borrow.Author.Tests.{eq-eqb, ne_eqb}
use mathlib.Core.Path.{refl, sym, ap, ◌∙◌}
use Prim.Native.Nat.{ℕ}
use lib.Dec.{eqb}
use Rattle.stimulus.specs.Waiting.{is_line_end, line_end}
use Rattle.stimulus.proofs.Searching.{first-hit, first-miss, first-none}
use Rattle.stimulus.proofs.pieces.line_end.Goals as goal

pub loop-i-init : goal.loop-i-init
unfolding line_end
loop-i-init c =
    (omega arith, refl)

pub returns-then-byte_at-eq10 : goal.returns-then-byte_at-eq10
unfolding is_line_end
returns-then-byte_at-eq10 c =
    sym (first-hit _ _ _ c.loop-i-test.true
    (ap (λ (b : ℕ). eqb b 10) (sym c.byte_at.ensures) ∙ eq-eqb _ _ c.if-byte_at-eq10.true)) ∙ c.loop-i.invariant.1

pub loop-i-preserved : goal.loop-i-preserved
unfolding is_line_end
loop-i-preserved c = (
  omega arith,
  sym (first-miss _ _ _ c.loop-i-test.true
      (ap (λ (b : ℕ). eqb b 10) (sym c.byte_at.ensures) ∙ ne_eqb _ _ c.if-byte_at-eq10.false)) ∙ c.loop-i.invariant.1,
)

pub returns : goal.returns
returns c =
    let h = first-none (is_line_end c.args.bytes.now) c.args.to c.loop-i.i c.loop-i-test.false in
    let e = c.loop-i.invariant.1 in
    omega arith
