-- How a search for the first number goes on, and what it finds. Assumes nothing.
use mathlib.Core.Path.{◌≡◌, refl, ap}
use mathlib.Core.Bool.{Bool, true, false}
use Prim.Native.Nat.{ℕ, suc, ◌+◌, ◌-◌, ◌<◌, ◌≤◌}
use native.Mathlib.Omega.{arith}
use borrow.Author.Tests.{ltb-true, ltb-false, lt-ltb, le-ltb}
use lib.Dec.{ltb}
use Rattle.std.specs.Prelude.{Option, Some, None}
use Rattle.values.specs.Values.{pick}
use Rattle.stimulus.specs.Counting.{first_from, found_at, found_below}

module _ (f : ℕ → Bool) (to v : ℕ) where
  pub first-hit : v < to → f v ≡ true → first_from f (to - v) v ≡ v
  unfolding first_from
  first-hit l e = let k : to - v ≡ suc (to - (v + 1)) = omega arith in rw (k, e)

  pub first-miss : v < to → f v ≡ false → first_from f (to - v) v ≡ first_from f (to - (v + 1)) (v + 1)
  unfolding first_from
  first-miss l e = let k : to - v ≡ suc (to - (v + 1)) = omega arith in rw (k, e)

  pub first-none : to ≤ v → first_from f (to - v) v ≡ v
  unfolding first_from
  first-none l = let k : to - v ≡ 0 = omega arith in rw k

-- ---- what was found, or nothing

abbrev tag : Option ℕ → ℕ
tag None = 0
tag (Some n) = suc n

-- A number below another.
module _ (to n : ℕ) where
  pub found-hit : (v : ℕ) → v ≡ n → v < to → Some v ≡ found_below to n
  found-hit v e l = rw (← e, lt-ltb v to l) refl

  pub found-miss : (v : ℕ) → v ≡ n → to ≤ v → None ≡ found_below to n
  found-miss v e l = rw (← e, le-ltb v to l) refl

  pub found-some : (v : ℕ) → Some v ≡ found_below to n → (v ≡ n) × (n < to)
  found-some v e = by (ltb n to) refl (ap tag e)
    where
      by : (t : Bool) → ltb n to ≡ t → suc v ≡ tag (pick t (Some n) None) → (v ≡ n) × (n < to)
      by true p e = (omega arith, ltb-true n to p)
      by false p e = absurd (omega arith)

  pub found-none : None ≡ found_below to n → to ≤ n
  found-none e = by (ltb n to) refl (ap tag e)
    where
      by : (t : Bool) → ltb n to ≡ t → 0 ≡ tag (pick t (Some n) None) → to ≤ n
      by true p e = absurd (omega arith)
      by false p e = ltb-false n to p

-- A place, where 0 is none.
module _ (n : ℕ) where
  pub at-some : (v : ℕ) → Some v ≡ found_at n → (v ≡ n) × (v ≡ 0 → ⊥)
  at-some v e = by (ltb 0 n) refl (ap tag e)
    where
      by : (t : Bool) → ltb 0 n ≡ t → suc v ≡ tag (pick t (Some n) None) → (v ≡ n) × (v ≡ 0 → ⊥)
      by true p e = let l = ltb-true 0 n p in (omega arith, λ z. omega arith)
      by false p e = absurd (omega arith)

  pub at-none : None ≡ found_at n → n ≡ 0
  at-none e = by (ltb 0 n) refl (ap tag e)
    where
      by : (t : Bool) → ltb 0 n ≡ t → 0 ≡ tag (pick t (Some n) None) → n ≡ 0
      by true p e = absurd (omega arith)
      by false p e = let l = ltb-false 0 n p in omega arith
