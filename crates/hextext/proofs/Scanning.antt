-- Laws of the scan: one turn of a loop over the text, where it stops, and what a step does to the number of bytes.
-- Assumes nothing.
use mathlib.Core.Path.{◌≡◌, refl, ap, ◌∙◌}
use mathlib.Core.Bool.{Bool, true, false}
use mathlib.Core.List.{List, [], ◌∷◌}
use Prim.Native.Nat.{ℕ, suc, ◌+◌, ◌<◌, ◌≤◌}
use native.Mathlib.Numerals.{add-one}
use borrow.Author.Tests.{lt-ltb, ltb-true, ltb-false, eqb-true, eqb-false}
use lib.Dec.{ltb, eqb}
use lib.ListN.{length, get_or, drop, drop_of_length-le}
use lib.Seq.{drop-cons}
use Rattle.hextext.specs.declared.Scan.{Scan}
use Rattle.hextext.specs.Characters.{is_digit, is_blank, digit_of}
use Rattle.hextext.specs.Scanning.{more, next_line, along, first, second, failed, step, scan}
use Rattle.hextext.specs.Decoding.{completes}
use Rattle.hextext.proofs.Steps.{step-comment-end, step-comment, step-single, step-first, step_line, step-mark, step-blank, step-wrong}

-- ---- more

pub more-below : (n : ℕ) → n < 4294967295 → more n ≡ suc n
unfolding more
more-below n h = rw (lt-ltb n 4294967295 h) (add-one n)

-- ---- scan

module _ (stop : Scan → Bool) (s : Scan) where
  pub scan-stopped : (l : List ℕ) → stop s ≡ true → scan stop s l ≡ s
  unfolding scan
  scan-stopped [] h = refl
  scan-stopped (b ∷ bs) h = rw h

  pub scan-turn :
      (text : List ℕ) (i : ℕ) → i < length text → stop s ≡ false →
      scan stop s (drop i text) ≡ scan stop (step s (get_or text i 0)) (drop (i + 1) text)
  unfolding scan
  scan-turn text i l h = rw (drop-cons text i 0 l, h, add-one i)

  pub scan-done : (text : List ℕ) (i : ℕ) → length text ≤ i → scan stop s (drop i text) ≡ s
  unfolding scan
  scan-done text i l = rw (drop_of_length-le text l)

-- ---- step: a byte more, or none

count-line : (s : Scan) → (next_line s).count ≡ s.count
unfolding next_line
count-line s = refl

count-along : (x : Bool) (s : Scan) → (along x s).count ≡ s.count
unfolding along
count-along x s = refl

count-first : (d : ℕ) (s : Scan) → (first d s).count ≡ s.count
unfolding first
count-first d s = refl

count-failed : (n : ℕ) (s : Scan) → (failed n s).count ≡ s.count
unfolding failed
count-failed n s = refl

module _ (s : Scan) (b : ℕ) where
  pub step-whole : completes s b ≡ true → step s b ≡ second s
  unfolding step completes
  step-whole h = by s.comment s.half (is_digit b) refl refl refl
    where
      by : (x y z : Bool) → s.comment ≡ x → s.half ≡ y → is_digit b ≡ z → step s b ≡ second s
      by true y z p q r = let g = rw p at h in cc
      by false true true p q r = rw (p, q, r)
      by false true false p q r = let g = rw (p, q, r) at h in cc
      by false false z p q r = let g = rw (p, q) at h in cc

  pub step_same : completes s b ≡ false → (step s b).count ≡ s.count
  unfolding completes is_digit
  step_same h = by s.comment s.half (ltb (digit_of b) 16) (eqb b 10) (eqb b 35) (is_blank b) refl refl refl refl refl refl
    where
      at : {t : Scan} → step s b ≡ t → t.count ≡ s.count → (step s b).count ≡ s.count
      at e k = ap (λ (x : Scan). x.count) e ∙ k

      by : (x y z n m k : Bool) → s.comment ≡ x → s.half ≡ y → ltb (digit_of b) 16 ≡ z → eqb b 10 ≡ n → eqb b 35 ≡ m → is_blank b ≡ k →
          (step s b).count ≡ s.count
      by true y z true m k x₁ y₁ z₁ n₁ m₁ k₁ = at (step-comment-end s b x₁ (eqb-true b 10 n₁)) (count-line s)
      by true y z false m k x₁ y₁ z₁ n₁ m₁ k₁ = at (step-comment s b x₁ (eqb-false b 10 n₁)) (count-along true s)
      by false true true n m k x₁ y₁ z₁ n₁ m₁ k₁ = let g = rw (x₁, y₁, z₁) at h in cc
      by false true false n m k x₁ y₁ z₁ n₁ m₁ k₁ = at (step-single s b x₁ y₁ (ltb-false _ _ z₁)) (count-failed 2 s)
      by false false true n m k x₁ y₁ z₁ n₁ m₁ k₁ = at (step-first s b x₁ y₁ (ltb-true _ _ z₁)) (count-first (digit_of b) s)
      by false false false true m k x₁ y₁ z₁ n₁ m₁ k₁ = at (step_line s b x₁ y₁ (ltb-false _ _ z₁) (eqb-true b 10 n₁)) (count-line s)
      by false false false false true k x₁ y₁ z₁ n₁ m₁ k₁ =
          at (step-mark s b x₁ y₁ (ltb-false _ _ z₁) (eqb-false b 10 n₁) (eqb-true b 35 m₁)) (count-along true s)
      by false false false false false true x₁ y₁ z₁ n₁ m₁ k₁ =
          at (step-blank s b x₁ y₁ (ltb-false _ _ z₁) (eqb-false b 10 n₁) (eqb-false b 35 m₁) k₁) (count-along false s)
      by false false false false false false x₁ y₁ z₁ n₁ m₁ k₁ =
          at (step-wrong s b x₁ y₁ (ltb-false _ _ z₁) (eqb-false b 10 n₁) (eqb-false b 35 m₁) k₁) (count-failed 1 s)
