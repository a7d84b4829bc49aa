-- Laws of `lowest`: it is the lowest number of which the test holds, where there is one, and one turn of the loop that looks for it.
-- Assumes nothing.
use mathlib.Core.Path.{◌≡◌, refl, sym, ◌∙◌}
use mathlib.Core.Bool.{Bool, true, false, ◌||◌}
use Prim.Native.Nat.{ℕ, zero, suc, ◌≤◌, ◌<◌}
use native.Mathlib.Omega.{arith}
use borrow.Author.Tests.{lt-ltb, le-ltb}
use lib.Dec.{ltb}
use Rattle.values.specs.Values.{pick}
use Rattle.events.specs.Cycle.{any_below}
use Rattle.events.proofs.Cycle.{absurd-bool, or_left, or_right, Below, at-end, before, below_suc, any-below, none_below, any_same}
use Rattle.witness.specs.Witness.{lowest}

module _ (f : ℕ → Bool) where
  pub lowest-none : (n : ℕ) → any_below n f ≡ false → lowest n f ≡ n
  unfolding lowest any_below
  lowest-none zero h = refl
  lowest-none (suc n) h = rw (or_left (any_below n f) (f n) h, or_right (any_below n f) (f n) h)

  pub lowest-at : (n k : ℕ) → k < n → any_below k f ≡ false → f k ≡ true → lowest n f ≡ k
  unfolding lowest
  lowest-at zero k l h e = absurd (omega arith)
  lowest-at (suc n) k l h e = by (below_suc n k l) (λ q. lowest-at n k q h e)
    where
      by : Below n k → (k < n → lowest n f ≡ k) → pick (any_below n f) (lowest n f) (pick (f n) n (suc n)) ≡ k
      by (at-end q) ih = rw (← q) (rw (h, e))
      by (before q) ih = rw (any-below f n k q e) (ih q)

  pub lowest-holds : (n : ℕ) → any_below n f ≡ true → (lowest n f < n) × (f (lowest n f) ≡ true)
  unfolding lowest any_below
  lowest-holds zero h = absurd-bool h refl
  lowest-holds (suc n) h = by (any_below n f) refl (lowest-holds n) h
    where
      by : (t : Bool) → any_below n f ≡ t → (any_below n f ≡ true → (lowest n f < n) × (f (lowest n f) ≡ true)) → (t || f n) ≡ true
          → let k = pick t (lowest n f) (pick (f n) n (suc n)) in (k < suc n) × (f k ≡ true)
      by true e ih q = let s = ih e in (omega (arith, s.0), s.1)
      by false e ih q = rw q (omega arith, q)

  -- Below it the test fails.
  pub lowest-least : (n : ℕ) → any_below (lowest n f) f ≡ false
  unfolding lowest any_below
  lowest-least zero = refl
  lowest-least (suc n) = by (any_below n f) refl (f n) refl (lowest-least n)
    where
      by : (a : Bool) → any_below n f ≡ a → (b : Bool) → f n ≡ b → any_below (lowest n f) f ≡ false
          → any_below (pick a (lowest n f) (pick b n (suc n))) f ≡ false
      by true e b g ih = ih
      by false e true g ih = e
      by false e false g ih = rw (e, g)

  pub lowest-most : (n : ℕ) → lowest n f ≤ n
  lowest-most n = by (any_below n f) refl
    where
      by : (t : Bool) → any_below n f ≡ t → lowest n f ≤ n
      by true e = omega (arith, (lowest-holds n e).0)
      by false e = omega (arith, lowest-none n e)

  -- It is below n just where there is one.
  pub lowest-some : (n : ℕ) → ltb (lowest n f) n ≡ any_below n f
  lowest-some n = by (any_below n f) refl
    where
      by : (t : Bool) → any_below n f ≡ t → ltb (lowest n f) n ≡ t
      by true e = lt-ltb (lowest n f) n (lowest-holds n e).0
      by false e = le-ltb (lowest n f) n (omega (arith, lowest-none n e))

  -- ---- the loop: found, and none at the end

  pub lowest-found : (n k : ℕ) {b : Bool} → k < n → any_below k f ≡ false → b ≡ f k → b ≡ true → k ≡ lowest n f
  lowest-found n k l h e g = sym (lowest-at n k l h (sym e ∙ g))

  pub lowest-end : (n k : ℕ) → any_below k f ≡ false → n ≡ k → n ≡ lowest n f
  lowest-end n k h e = sym (lowest-none n (rw e h))

-- Tests that agree below n.
pub lowest-same : (f g : ℕ → Bool) (n : ℕ) → ((k : ℕ) → k < n → f k ≡ g k) → lowest n f ≡ lowest n g
unfolding lowest
lowest-same f g zero h = refl
lowest-same f g (suc n) h =
    rw (any_same f g n (λ k l. h k (omega arith)), lowest-same f g n (λ k l. h k (omega arith)), h n (omega arith))

-- ---- a test that fails of 0 and holds of n: at the lowest k whose next it holds of, it fails

module _ (g : ℕ → Bool) (start : g 0 ≡ false) where
  some_next : (n : ℕ) → g n ≡ true → any_below n (λ k. g (suc k)) ≡ true
  some_next zero h = absurd-bool h start
  some_next (suc n) h = any-below (λ k. g (suc k)) (suc n) n (omega arith) h

  fails-at : (n k : ℕ) → lowest n (λ k. g (suc k)) ≡ k → g k ≡ false
  fails-at n zero e = start
  fails-at n (suc k) e =
      none_below (λ k. g (suc k)) (lowest n (λ k. g (suc k))) (lowest-least (λ k. g (suc k)) n) k (omega arith)

  pub record Turns (n k : ℕ) : Type 0 where
    pub inside : k < n
    pub fails : g k ≡ false
    pub holds : g (suc k) ≡ true

  pub turns : (n : ℕ) → g n ≡ true → Turns n (lowest n (λ k. g (suc k)))
  turns n h =
      let s = lowest-holds (λ k. g (suc k)) n (some_next n h) in
      record { inside = s.0; fails = fails-at n (lowest n (λ k. g (suc k))) refl; holds = s.1 }

  -- A test that goes on to hold.
  pub any_next : ((k : ℕ) → g k ≡ true → g (suc k) ≡ true) → (n : ℕ) → any_below n (λ k. g (suc k)) ≡ g n
  unfolding any_below
  any_next more zero = sym start
  any_next more (suc n) = rw (any_next more n) (by (g n) refl)
    where
      by : (t : Bool) → g n ≡ t → (t || g (suc n)) ≡ g (suc n)
      by true e = sym (more n e)
      by false e = refl
