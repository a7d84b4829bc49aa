-- The wires that read a variable whose value differs: they go by the values that wires read (touched-same, readers-same), and wires
-- that read no such variable add none (readers-none). They are as many as are counted (readers-count). Assumes nothing.
use Prim.Native.Nat.{ℕ, zero, suc, ◌+◌, ◌≤◌, ◌<◌}
use mathlib.Core.Path.{◌≡◌, refl, ap, ◌∙◌}
use mathlib.Core.Bool.{Bool, true, false, ◌&&◌}
use mathlib.Core.List.{[], ◌∷◌, append-nil}
use native.Mathlib.Decide.{dec_le}
use native.Mathlib.Omega.{arith}
use lib.ListN.{length, length-append}
use Rattle.values.specs.declared.Value.{Value}
use Rattle.values.specs.Values.{pick}
use Rattle.sheet.specs.Expression.{Expr}
use Rattle.sheet.specs.Module.{Module}
use Rattle.evaluation.specs.Evaluation.{reads}
use Rattle.events.specs.Cycle.{variables, wire_expr, changed, touched}
use Rattle.events.proofs.Cycle.{any_same}
use Rattle.nextstate.specs.Rules.{one}
use Rattle.work.specs.Work.{readers_below, reader_count}

pub touched-same : (m : Module Expr) (e : Expr) (f g h : ℕ → Value) → ((v : ℕ) → reads e v ≡ true → g v ≡ h v) →
    touched m e f g ≡ touched m e f h
unfolding touched changed
touched-same m e f g h same =
    any_same (λ v. reads e v && changed f g v) (λ v. reads e v && changed f h v) (variables m) (λ v l. by v (reads e v) refl)
  where
    by : (v : ℕ) (t : Bool) → reads e v ≡ t → (t && changed f g v) ≡ (t && changed f h v)
    by v true r = rw (same v r) refl
    by v false r = refl

module _ (m : Module Expr) (f : ℕ → Value) where
  pub readers-same : (n : ℕ) (g h : ℕ → Value) → ((k : ℕ) → k < n → (v : ℕ) → reads (wire_expr m k) v ≡ true → g v ≡ h v) →
      readers_below m n f g ≡ readers_below m n f h
  unfolding readers_below
  readers-same zero g h same = refl
  readers-same (suc n) g h same =
      rw (readers-same n g h (λ k l. same k (omega arith)), touched-same m (wire_expr m n) f g h (same n (omega arith))) refl

  pub readers-none : (b n : ℕ) (g : ℕ → Value) → b ≤ n →
      ((k : ℕ) → b ≤ k → k < n → touched m (wire_expr m k) f g ≡ false) → readers_below m n f g ≡ readers_below m b f g
  unfolding readers_below
  readers-none b zero g l h = let e : b ≡ 0 = omega arith in rw e refl
  readers-none b (suc n) g l h = by (dec_le b n) (λ q. readers-none b n g q (λ k x y. h k x (omega arith)))
    where
      by : Dec (b ≤ n) → (b ≤ n → readers_below m n f g ≡ readers_below m b f g) → readers_below m (suc n) f g ≡ readers_below m b f g
      by (yes q) ih = rw (h n q (omega arith)) (append-nil (readers_below m n f g) ∙ ih q)
      by (no q) ih = let e : b ≡ suc n = omega arith in rw e refl

  pub readers-count : (n : ℕ) (g : ℕ → Value) → length (readers_below m n f g) ≡ reader_count m n f g
  unfolding readers_below reader_count one
  readers-count zero g = refl
  readers-count (suc n) g =
      length-append (readers_below m n f g) (pick (touched m (wire_expr m n) f g) (n ∷ []) [])
      ∙ ap (λ c. c + length (pick (touched m (wire_expr m n) f g) (n ∷ []) [])) (readers-count n g)
      ∙ ap (λ c. reader_count m n f g + c) (by (touched m (wire_expr m n) f g))
    where
      by : (t : Bool) → length {A = ℕ} (pick t (n ∷ []) []) ≡ pick t 1 0
      by true = refl
      by false = refl
