-- One variable's new value, and the expressions that it touches. Assumes nothing.
use mathlib.Core.Path.{◌≡◌, refl, sym, ap, ◌∙◌}
use mathlib.Core.Logic.{◌≢◌}
use mathlib.Core.Bool.{Bool, true, false, not, ◌&&◌, ◌||◌, and-false, or-true, or-false}
use Prim.Native.Nat.{ℕ, ◌<◌}
use lib.Dec.{eqb}
use borrow.Author.Tests.{eqb-true, eqb-false}
use Rattle.values.specs.declared.Value.{Value}
use Rattle.values.specs.Values.{same}
use Rattle.sheet.specs.Expression.{Expr}
use Rattle.sheet.specs.Module.{Module}
use Rattle.evaluation.specs.Evaluation.{reads}
use Rattle.state.specs.declared.State.{State}
use Rattle.state.specs.State.{Shaped, value_of, with_value}
use Rattle.state.proofs.Accessors.{value-with_value-same, value-with_value-other}
use Rattle.events.specs.Cycle.{variables, any_below, changed, touched}
use Rattle.events.proofs.Cycle.{any-below, any_same, changed-≡}

-- A test that differs from one before at one number alone, of which that one did not hold.
any-one :
    (f g : ℕ → Bool) (n v : ℕ) → v < n → f v ≡ false → ((k : ℕ) → v ≢ k → g k ≡ f k) →
    any_below n g ≡ (any_below n f || g v)
any-one f g n v h e other = by (g v) refl
  where
    by : (t : Bool) → g v ≡ t → any_below n g ≡ (any_below n f || t)
    by true q = any-below g n v h q ∙ sym (or-true (any_below n f))
    by false q = any_same g f n (λ k l. at k (eqb v k) refl) ∙ sym (or-false (any_below n f))
      where
        at : (k : ℕ) (t : Bool) → eqb v k ≡ t → g k ≡ f k
        at k true p = rw (← (eqb-true v k p)) (q ∙ sym e)
        at k false p = other k (eqb-false v k p)

module _ (m : Module Expr) (f : ℕ → Value) (u : State) (v : ℕ) (a : Value) where
  pub touched-put :
      (x : Expr) → Shaped u → v < variables m → v < 80 → value_of u v ≡ f v →
      touched m x f (value_of (with_value u v a)) ≡ (touched m x f (value_of u) || (reads x v && not (same (f v) a)))
  unfolding touched changed
  touched-put x s h l e =
      any-one (λ k. reads x k && not (same (f k) (value_of u k)))
      (λ k. reads x k && not (same (f k) (value_of (with_value u v a) k))) (variables m) v h
      (rw (changed-≡ f (value_of u) v e) (and-false (reads x v)))
      (λ k d. rw (value-with_value-other u v a k d))
      ∙ ap (λ b. touched m x f (value_of u) || (reads x v && not (same (f v) b))) (value-with_value-same u v a s l)
