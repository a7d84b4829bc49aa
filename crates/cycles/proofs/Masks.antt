-- The masks of the registers that threads write, plainly or later. Assumes nothing.
use mathlib.Core.Path.{◌≡◌, ◌∙◌}
use mathlib.Core.Bool.{Bool, false, ◌||◌}
use mathlib.Core.List.{List}
use Prim.Native.Nat.{ℕ, ◌+◌, ◌^◌, ◌<◌}
use native.Mathlib.Decide.{ℕ_discrete}
use native.Mathlib.Omega.{arith}
use mir.Syntax.{w32}
use mir.Val.{Fits}
use lib.ListN.{length, get_or, set, replicate, length-replicate, length-set}
use lib.Seq.{get_or-set_same, get_or-set_other}
use Rattle.masks.specs.Masks.{bits, either}
use Rattle.masks.proofs.Masks.{get_d-either}

-- A number of 32 bits.
pub below-32 : {n : ℕ} → Fits w32 n → n < 2 ^ 32
below-32 f = f.fits

module _ (plain later : List ℕ) where
  abbrev both : ℕ → ℕ → Bool
  both i r = get_or (bits (get_or plain i 0)) r false || get_or (bits (get_or later i 0)) r false

  pub record Joined (n : ℕ) (out : List ℕ) : Type 0 where
    pub long : length out ≡ 8
    pub same : (i r : ℕ) → i < n → get_or (bits (get_or out i 0)) r false ≡ both i r

  pub joined-none : Joined 0 (replicate 8 0)
  joined-none = record { long = length-replicate {A = ℕ} 8 0; same = λ i r l. absurd (omega arith) }

  pub joined-more :
      (n : ℕ) (out : List ℕ) (u : ℕ) → n < 8 → Joined n out → bits u ≡ either (bits (get_or plain n 0)) (bits (get_or later n 0)) →
      Joined (n + 1) (set out n u)
  joined-more n out u l j e =
      record { long = length-set out n u ∙ j.long; same = λ i r o. by i r o (ℕ_discrete i n) }
    where
      by : (i r : ℕ) → i < n + 1 → Dec (i ≡ n) → get_or (bits (get_or (set out n u) i 0)) r false ≡ both i r
      by i r o (yes d) =
          rw (d, get_or-set_same out n u 0 (omega (arith, j.long)), e) (get_d-either (bits (get_or plain n 0)) (bits (get_or later n 0)) r)
      by i r o (no d) = rw (get_or-set_other out n i u 0 d) (j.same i r (omega arith))

  pub joined-all :
      (n : ℕ) (out : List ℕ) → n ≡ 8 → Joined n out → (i r : ℕ) → i < 8 → get_or (bits (get_or out i 0)) r false ≡ both i r
  joined-all n out e j i r l = j.same i r (omega arith)
