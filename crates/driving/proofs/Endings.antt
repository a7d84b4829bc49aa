-- Laws of what is said of a run. Assumes nothing.
use mathlib.Core.Path.{◌≡◌}
use mathlib.Core.Bool.{true, false}
use Prim.Native.Nat.{ℕ}
use borrow.Author.Tests.{eq-eqb, ne_eqb}
use Rattle.driving.specs.declared.Rest.{Rest}
use Rattle.driving.specs.declared.Ending.TheVariants.{Rested, Refused, Restless}
use Rattle.driving.specs.Endings.{most_of, ending_of}

module _ (r : Rest) where
  pub ending-refused : (r.number ≡ 0 → ⊥) → Refused r.number ≡ ending_of r
  unfolding ending_of
  ending-refused h = rw (ne_eqb r.number 0 h)

  module _ (z : r.number ≡ 0) where
    pub ending-rested : r.rested ≡ true → Rested ≡ ending_of r
    unfolding ending_of
    ending-rested h = rw (eq-eqb r.number 0 z, h)

    pub ending-restless : r.rested ≡ false → (n : ℕ) → n ≡ most_of r.way → Restless n ≡ ending_of r
    unfolding ending_of
    ending-restless h n e = rw (eq-eqb r.number 0 z, h, e)
