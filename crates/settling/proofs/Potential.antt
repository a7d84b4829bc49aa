-- The potential is below 2^W, and falls where the lowest mark that differs is cleared. Assumes nothing.
use mathlib.Core.Path.{◌≡◌, refl}
use mathlib.Core.Bool.{Bool, true, false}
use Prim.Native.Nat.{ℕ, zero, suc, ◌+◌, ◌*◌, ◌^◌, ◌≤◌, ◌<◌}
use native.Mathlib.Omega.{arith}
use Rattle.nextstate.specs.Rules.{one}
use Rattle.events.proofs.Cycle.{Below, at-end, before, below_suc}
use Rattle.settling.specs.Potential.{potential}

one-most : (b : Bool) → one b ≤ 1
unfolding one
one-most true = omega arith
one-most false = omega arith

pub potential-below : (n : ℕ) (d : ℕ → Bool) → potential n d < 2 ^ n
unfolding potential
potential-below zero d = omega arith
potential-below (suc n) d =
    let double : 2 ^ suc n ≡ 2 * 2 ^ n = omega arith in
    omega (arith, potential-below n d, one-most (d n), double)

pub potential-same : (n : ℕ) (d e : ℕ → Bool) → ((j : ℕ) → j < n → e j ≡ d j) → potential n e ≡ potential n d
unfolding potential
potential-same zero d e h = refl
potential-same (suc n) d e h = rw (potential-same n d e (λ j l. h j (omega arith)), h n (omega arith)) refl

pub potential-falls :
    (n k : ℕ) (d e : ℕ → Bool) → k < n → d k ≡ true → e k ≡ false → ((j : ℕ) → j < k → e j ≡ d j) → potential n e < potential n d
unfolding potential one
potential-falls zero k d e l due clear h = absurd (omega arith)
potential-falls (suc n) k d e l due clear h = by (below_suc n k l) (λ s. potential-falls n k d e s due clear h)
  where
    by : Below n k → (k < n → potential n e < potential n d) → 2 * potential n e + one (e n) < 2 * potential n d + one (d n)
    by (at-end q) below =
        let last-due : d n ≡ true = rw q at due in
        let last-clear : e n ≡ false = rw q at clear in
        let same = potential-same n d e (λ j s. h j (omega arith)) in
        rw (last-due, last-clear, same) (omega arith)
    by (before s) below = omega (arith, below s, one-most (e n))
