-- Laws of the next token of a kind. Assumes nothing.
use mathlib.Core.Path.{◌≡◌, refl, ap}
use mathlib.Core.Bool.{Bool, true, false}
use mathlib.Core.List.{List, [], ◌∷◌}
use Prim.Native.Nat.{ℕ, zero, suc, ◌+◌, ◌-◌, ◌<◌, ◌≤◌}
use native.Mathlib.Omega.{arith}
use lib.Dec.{eqb}
use lib.ListN.{get_or}
use Rattle.verilog_names.specs.Chosen.{capped, chosen, has_role}
use Rattle.verilog_names.specs.Order.{first_or, next_of, is_target, target_of}
use Rattle.verilog_names.proofs.Chosen.{here_in, here_out, chosen-all, chosen-step, chosen-done}

module _ (test : ℕ → Bool) (n i : ℕ) where
  pub first-here : i < n → test i ≡ true → first_or n (chosen test (n - i) i) ≡ i
  unfolding first_or
  first-here h e = rw (chosen-step test n i h, here_in test i e)

  pub first_on : i < n → test i ≡ false → first_or n (chosen test (n - i) i) ≡ first_or n (chosen test (n - (i + 1)) (i + 1))
  first_on h e = rw (chosen-step test n i h, here_out test i e)

  pub first_done : n ≤ i → first_or n (chosen test (n - i) i) ≡ n
  unfolding first_or
  first_done h = rw (chosen-done test n i h)

module _ (roles : List ℕ) (count n : ℕ) (e : n ≡ capped count) where
  pub next-all : (r i : ℕ) → first_or n (chosen (has_role roles r) (n - i) i) ≡ next_of roles (capped count) r i
  unfolding next_of
  next-all r i = rw e

  pub target-all : (ids : List ℕ) (x : ℕ) → first_or n (chosen (is_target ids roles x) (n - 0) 0) ≡ target_of ids roles (capped count) x
  unfolding target_of
  target-all ids x = rw (chosen-all, e)

module _ (ids roles : List ℕ) (x i : ℕ) where
  pub target-in : has_role roles 4 i ≡ true → eqb (get_or ids i 0) x ≡ is_target ids roles x i
  unfolding is_target
  target-in e = rw e

  pub target-out : has_role roles 4 i ≡ false → false ≡ is_target ids roles x i
  unfolding is_target
  target-out e = rw e

-- ---- all tokens of a role, one after the other

module _ (test : ℕ → Bool) (n : ℕ) where
  first-list : (m i : ℕ) → i + m ≡ n → first_or n (chosen test m i) < n
      → chosen test m i ≡ first_or n (chosen test m i) ∷
      chosen test (n - (first_or n (chosen test m i) + 1)) (first_or n (chosen test m i) + 1)
  unfolding chosen first_or
  first-list zero i e h = absurd (omega arith)
  first-list (suc m) i e h = by (test i) refl (first-list m (i + 1) (omega arith)) h
    where
      Goal : Type 0
      Goal =
          chosen test (suc m) i ≡ first_or n (chosen test (suc m) i) ∷
          chosen test (n - (first_or n (chosen test (suc m) i) + 1)) (first_or n (chosen test (suc m) i) + 1)

      by : (t : Bool) → test i ≡ t
          → (first_or n (chosen test m (i + 1)) < n → chosen test m (i + 1) ≡ first_or n (chosen test m (i + 1)) ∷
          chosen test (n - (first_or n (chosen test m (i + 1)) + 1)) (first_or n (chosen test m (i + 1)) + 1))
          → first_or n (chosen test (suc m) i) < n → Goal
      by true q f h = rw (here_in test i q) (ap (λ k. i ∷ chosen test k (i + 1)) {x = m} {y = n - (i + 1)} (omega arith))
      by false q f h = rw (here_out test i q) (f (rw (here_out test i q) at h))

  first-none : (m i : ℕ) → i + m ≡ n → n ≤ first_or n (chosen test m i) → chosen test m i ≡ []
  unfolding chosen first_or
  first-none zero i e h = refl
  first-none (suc m) i e h = by (test i) refl (first-none m (i + 1) (omega arith)) h
    where
      by : (t : Bool) → test i ≡ t → (n ≤ first_or n (chosen test m (i + 1)) → chosen test m (i + 1) ≡ [])
          → n ≤ first_or n (chosen test (suc m) i) → chosen test (suc m) i ≡ []
      by true q f h = let l = rw (here_in test i q) at h in absurd (omega arith)
      by false q f h = rw (here_out test i q) (f (rw (here_out test i q) at h))

module _ (roles : List ℕ) (n r i : ℕ) (h : i ≤ n) where
  pub next-some : next_of roles n r i < n
      → chosen (has_role roles r) (n - i) i ≡ next_of roles n r i ∷
      chosen (has_role roles r) (n - (next_of roles n r i + 1)) (next_of roles n r i + 1)
  unfolding next_of
  next-some l = first-list (has_role roles r) n (n - i) i (omega arith) l

  pub next-none : n ≤ next_of roles n r i → chosen (has_role roles r) (n - i) i ≡ []
  unfolding next_of
  next-none l = first-none (has_role roles r) n (n - i) i (omega arith) l
