-- `values::fits` meets its contract. Assumes nothing.
use Rattle.std.proofs.Common.{◌≡◌, ℕ, arith, sym, refl, ◌∙◌}
use Rattle.values.specs.Values.{fits}
use Rattle.values.proofs.fits.Goals.{then-below, else-below}
use Rattle.values.proofs.fits.Goals as goal

pub returns-then-below-2 : goal.returns-then-below-2
unfolding fits
returns-then-below-2 c =
    elim c.if-below.branch [
      | then-below w ↦ rw (sym c.below.ensures ∙ w.if-below.true, sym w.below-then-below.ensures ∙ sym w.value-is ∙ c.if-below-2.true) refl
      | else-below w ↦ let z : ◌≡◌ {A = ℕ} 0 1 = cc (sym c.if-below-2.true ∙ w.value-is ∙ w.if-below.false) in absurd (omega arith)
    ]

pub returns-else-below-2 : goal.returns-else-below-2
unfolding fits
returns-else-below-2 c =
    c.if-below-2.false
    ∙ elim c.if-below.branch [
      | then-below w ↦ rw (sym c.below.ensures ∙ w.if-below.true, sym w.below-then-below.ensures ∙ sym w.value-is ∙ c.if-below-2.false) refl
      | else-below w ↦ rw (sym c.below.ensures ∙ w.if-below.false) refl
    ]
