-- Those of some tokens that a test takes. Assumes nothing.
use mathlib.Core.Path.{◌≡◌, refl, sym, ◌∙◌, ap}
use mathlib.Core.Bool.{Bool, true, false}
use mathlib.Core.List.{List, [], ◌∷◌, ◌++◌, append_assoc, append-nil}
use Prim.Native.Nat.{ℕ, zero, suc, ◌+◌}
use Rattle.values.specs.Values.{pick}
use Rattle.verilog_names.specs.Chosen.{here, chosen}

unfoldable pub kept : (ℕ → Bool) → List ℕ → List ℕ
kept test [] = []
kept test (t ∷ ts) = here test t ++ kept test ts

pub kept_append : (test : ℕ → Bool) (xs ys : List ℕ) → kept test (xs ++ ys) ≡ kept test xs ++ kept test ys
unfolding kept
kept_append test [] ys = refl
kept_append test (t ∷ xs) ys =
    ap (λ l. here test t ++ l) (kept_append test xs ys) ∙ sym (append_assoc (here test t) (kept test xs) (kept test ys))

-- Two tests one after the other.
pub kept-chosen : (a b : ℕ → Bool) (n i : ℕ) → chosen (λ k. pick (a k) (b k) false) n i ≡ kept b (chosen a n i)
unfolding here chosen kept
kept-chosen a b zero i = refl
kept-chosen a b (suc n) i =
    ap (λ l. here (λ k. pick (a k) (b k) false) i ++ l) (kept-chosen a b n (i + 1))
    ∙ ap (λ l. l ++ kept b (chosen a n (i + 1))) (by (a i) refl)
    ∙ sym (kept_append b (here a i) (chosen a n (i + 1)))
  where
    by : (t : Bool) → a i ≡ t → here (λ k. pick (a k) (b k) false) i ≡ kept b (here a i)
    by true e = rw e (sym (append-nil (here b i)))
    by false e = rw e

-- Tests that agree.
pub chosen-same : (f g : ℕ → Bool) → ((k : ℕ) → f k ≡ g k) → (n i : ℕ) → chosen f n i ≡ chosen g n i
unfolding here chosen
chosen-same f g e zero i = refl
chosen-same f g e (suc n) i = rw (e i, chosen-same f g e n (i + 1))
