-- An expression that was read is sound: it reads variables of its scope only, and its values fit its width.
-- Assumes nothing.
use mathlib.Core.Path.{◌≡◌, refl}
use mathlib.Core.Bool.{Bool, true, false, ◌||◌}
use mathlib.Core.List.{List, [], ◌∷◌}
use Prim.Native.Nat.{ℕ, ◌<◌}
use native.Mathlib.Omega.{arith}
use lib.ListN.{length}
use borrow.Author.Tests.{eqb-true}
use Rattle.sheet.specs.Reading.{ok}
use Rattle.sheet.specs.Expression.{Expr, variable, constant, unknown, unary, binary, conditional, call, Arguments, no_more, argument, Parsed, tree, Scope}
use Rattle.sheet.proofs.Expression.{derive}
use Rattle.evaluation.specs.Evaluation.{reads, reads_all}
use Rattle.evaluation.specs.Widths.{Typed, AllTyped}
use Rattle.evaluation.proofs.Evaluation.{TypedFunctions, read-typed, eval-fits}
use Rattle.soundness.specs.Soundness.{SoundExpr}

-- ---- reads

false≢true : {P : Type 0} → false ≡ true → P
false≢true h = let z : ◌≡◌ {A = ℕ} 0 1 = cc in absurd (omega arith)

||-elim : {P : Type 0} (a b : Bool) → (a ≡ true → P) → (b ≡ true → P) → (a || b) ≡ true → P
||-elim true b f g h = f refl
||-elim false b f g h = g h

mutual
  unfolding reads Typed

  pub reads-below : (ws : List ℕ) (e : Expr) (w : ℕ) → Typed ws e w → (v : ℕ) → reads e v ≡ true → v < length ws
  reads-below ws (variable u) w t v r = let x = eqb-true u v r in omega (arith, t.0)
  reads-below ws (constant k n) w t v r = false≢true r
  reads-below ws (unknown k) w t v r = false≢true r
  reads-below ws (unary o k a) w t v r = reads-below ws a k t.2 v r
  reads-below ws (binary o k a b) w t v r =
      ||-elim (reads a v) (reads b v) (λ h. reads-below ws a k t.2 v h) (λ h. reads-below ws b k t.3 v h) r
  reads-below ws (conditional c a b) w t v r =
      ||-elim (reads c v || reads a v) (reads b v)
      (||-elim (reads c v) (reads a v) (λ h. reads-below ws c t.0.0 t.0.1 v h) (λ h. reads-below ws a w t.1 v h))
      (λ h. reads-below ws b w t.2 v h)
      r
  reads-below ws (call n k ys b) w t v r = all-below ws ys t.2.0 t.2.1 v r

  all-below : (ws : List ℕ) (ys : Arguments) (ps : List ℕ) → AllTyped ws ys ps → (v : ℕ) → reads_all ys v ≡ true → v < length ws
  all-below ws no_more ps t v r = false≢true r
  all-below ws (argument e ys) [] t v r = absurd t
  all-below ws (argument e ys) (p ∷ ps) t v r =
      ||-elim (reads e v) (reads_all ys v) (λ h. reads-below ws e p t.0 v h) (λ h. all-below ws ys ps t.1 v h) r

-- ---- tree

pub tree-sound : (c : Scope) (s : List ℕ) (p : ℕ) {q : Parsed Expr} → TypedFunctions c.functions → tree s c p ≡ ok q →
    SoundExpr c q.width q.item
unfolding tree
tree-sound c s p fs h =
    let t = read-typed fs (derive c s 16 p h) in
    record {
      typed = t;
      reads-within = reads-below c.widths _ _ t;
      fits_width = λ f g. eval-fits c.widths f g _ _ t;
    }
