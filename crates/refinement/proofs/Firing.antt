-- The terms of a wait, one by one, and the wait that they stand in. Assumes nothing.
use mathlib.Core.Path.{◌≡◌, refl, ap, ◌∙◌}
use mathlib.Core.Bool.{Bool, true, false, ◌||◌, or_assoc}
use mathlib.Core.List.{List, [], ◌∷◌}
use Prim.Native.Nat.{ℕ, zero, suc, ◌≤◌}
use lib.ListN.{length, get_or}
use Rattle.values.specs.declared.Value.{Value}
use Rattle.values.specs.Edges.{fires}
use Rattle.sheet.specs.declared.EdgeTerm.{EdgeTerm}
use Rattle.pseudocode.specs.declared.EdgeTerms.{EdgeTerms}
use Rattle.pseudocode.specs.Instruction.{no_term, terms_of}
use Rattle.pseudocode.specs.Fetching.{term_at}
use Rattle.pseudocode.proofs.Fetching.{term_of}
use Rattle.events.specs.Cycle.{any_below, terms_fire}
use Rattle.events.proofs.Cycle.{any_same}

-- The first number, and the others.
any-front : (f : ℕ → Bool) (n : ℕ) → any_below (suc n) f ≡ (f 0 || any_below n (λ k. f (suc k)))
unfolding any_below
any-front f zero = by (f 0)
  where
    by : (t : Bool) → (false || t) ≡ (t || false)
    by true = refl
    by false = refl
any-front f (suc n) =
    ap (λ t. t || f (suc n)) (any-front f n) ∙ or_assoc (f 0) (any_below n (λ k. f (suc k))) (f (suc n))

module _ (f g : ℕ → Value) where
  -- Does the term fire, the values going from f to g?
  abbrev fires-on : EdgeTerm → Bool
  fires-on t = fires t.edge (f t.variable) (g t.variable)

  -- Does term k of these fire?
  abbrev pub term-fires : EdgeTerms → ℕ → Bool
  term-fires t k = fires-on (term_at t k)

  terms-fire :
      (ts : List EdgeTerm) (other : EdgeTerm) → any_below (length ts) (λ k. fires-on (get_or ts k other)) ≡ terms_fire ts f g
  unfolding any_below terms_fire
  terms-fire [] other = refl
  terms-fire (t ∷ ts) other =
      any-front (λ k. fires-on (get_or (t ∷ ts) k other)) (length ts) ∙ ap (λ r. fires-on t || r) (terms-fire ts other)

  pub waits-fire : (ts : List EdgeTerm) → length ts ≤ 8 → any_below (length ts) (term-fires (terms_of ts)) ≡ terms_fire ts f g
  waits-fire ts h =
      any_same (term-fires (terms_of ts)) (λ k. fires-on (get_or ts k no_term)) (length ts) (λ k l. rw (term_of ts k h))
      ∙ terms-fire ts no_term
