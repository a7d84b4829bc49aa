-- Laws of a wait's terms: each of the eight stands at its place, and past them there is none. Assumes nothing.
use mathlib.Core.Path.{◌≡◌, refl}
use mathlib.Core.List.{List, [], ◌∷◌}
use Prim.Native.Nat.{ℕ, zero, suc, ◌<◌, ◌≤◌}
use native.Mathlib.Omega.{arith}
use lib.ListN.{get_or-eq_default}
use Rattle.pseudocode.specs.declared.EdgeTerms.{EdgeTerms}
use Rattle.pseudocode.specs.Instruction.{no_term}
use Rattle.pseudocode.specs.Fetching.{term_at}
use Rattle.plan.specs.Plan.{term_from, terms_from}

pub term-stands : (ws : List ℕ) (first n k : ℕ) → k < 8 → term_at (terms_from ws first n) k ≡ term_from ws first n k
unfolding term_at terms_from
term-stands ws first n zero h = refl
term-stands ws first n (suc zero) h = refl
term-stands ws first n (suc (suc zero)) h = refl
term-stands ws first n (suc (suc (suc zero))) h = refl
term-stands ws first n (suc (suc (suc (suc zero)))) h = refl
term-stands ws first n (suc (suc (suc (suc (suc zero))))) h = refl
term-stands ws first n (suc (suc (suc (suc (suc (suc zero)))))) h = refl
term-stands ws first n (suc (suc (suc (suc (suc (suc (suc zero))))))) h = refl
term-stands ws first n (suc (suc (suc (suc (suc (suc (suc (suc k)))))))) h = absurd (omega arith)

pub none-past : (t : EdgeTerms) (k : ℕ) → 8 ≤ k → term_at t k ≡ no_term
unfolding term_at
none-past t k h =
    get_or-eq_default (t.t0 ∷ t.t1 ∷ t.t2 ∷ t.t3 ∷ t.t4 ∷ t.t5 ∷ t.t6 ∷ t.t7 ∷ []) no_term h

-- A wait without terms has none at any place.
pub none-at : (ws : List ℕ) (k : ℕ) → term_at (terms_from ws 0 0) k ≡ no_term
unfolding term_at terms_from term_from
none-at ws zero = refl
none-at ws (suc zero) = refl
none-at ws (suc (suc zero)) = refl
none-at ws (suc (suc (suc zero))) = refl
none-at ws (suc (suc (suc (suc zero)))) = refl
none-at ws (suc (suc (suc (suc (suc zero))))) = refl
none-at ws (suc (suc (suc (suc (suc (suc zero)))))) = refl
none-at ws (suc (suc (suc (suc (suc (suc (suc zero))))))) = refl
none-at ws (suc (suc (suc (suc (suc (suc (suc (suc k)))))))) = refl
