-- What is laid into a table of zeros is a row. Assumes nothing.
use mathlib.Core.Path.{◌≡◌, refl, sym, ap, ◌∙◌}
use mathlib.Core.Logic.{◌≢◌}
use mathlib.Core.Bool.{Bool, true, false}
use mathlib.Core.List.{List, [], ◌∷◌, ◌++◌, append_assoc, append-nil}
use Prim.Native.Nat.{ℕ, zero, suc, ◌+◌, ◌<◌}
use native.Mathlib.Omega.{arith}
use borrow.Author.Tests.{ltb-true, ltb-false, eqb-true, eqb-false}
use lib.Dec.{ltb, eqb}
use lib.ListN.{length, get_or, set, replicate, length-append, length-set, length-replicate}
use lib.Seq.{ext_get_or, get_or-take, get_or-set_same, get_or-set_other, get_or-append_seam, length-take-le}
use Rattle.values.specs.Values.{pick}
use Rattle.verilog_labels.specs.Labels.{row}
use Rattle.verilog_labels.specs.Steps.{zeros, put, laid}

pub zeros-at : (n i : ℕ) → get_or (zeros n) i 0 ≡ 0
zeros-at zero i = refl
zeros-at (suc n) zero = refl
zeros-at (suc n) (suc i) = zeros-at n i

padded-at : (xs : List ℕ) (n i : ℕ) → get_or (xs ++ zeros n) i 0 ≡ get_or xs i 0
padded-at [] n i = zeros-at n i
padded-at (x ∷ xs) n zero = refl
padded-at (x ∷ xs) n (suc i) = padded-at xs n i

row_at : (xs : List ℕ) (i : ℕ) → i < 80 → get_or (row xs) i 0 ≡ get_or xs i 0
unfolding row
row_at xs i h = get_or-take 80 (xs ++ replicate 80 0) i 0 h ∙ padded-at xs 80 i

row-length : (xs : List ℕ) → length (row xs) ≡ 80
unfolding row
row-length xs =
    length-take-le 80 (xs ++ replicate 80 0) (omega (arith, length-append xs (replicate 80 0), length-replicate {A = ℕ} 80 0))

more-at : (xs : List ℕ) (x i : ℕ) → i ≢ length xs → get_or (xs ++ x ∷ []) i 0 ≡ get_or xs i 0
more-at [] x zero h = absurd (h refl)
more-at [] x (suc i) h = refl
more-at (y ∷ xs) x zero h = refl
more-at (y ∷ xs) x (suc i) h = more-at xs x i (λ e. h (ap suc e))

module _ (xs : List ℕ) (x : ℕ) where
  grown-at : length xs < 80 → (i : ℕ) → i < 80 → get_or (set (row xs) (length xs) x) i 0 ≡ get_or (row (xs ++ x ∷ [])) i 0
  grown-at l i h = by (eqb i (length xs)) refl
    where
      by : (b : Bool) → eqb i (length xs) ≡ b → get_or (set (row xs) (length xs) x) i 0 ≡ get_or (row (xs ++ x ∷ [])) i 0
      by true q =
          let e = eqb-true i (length xs) q in
          ap (λ k. get_or (set (row xs) (length xs) x) k 0) e
          ∙ get_or-set_same (row xs) (length xs) x 0 (omega (arith, row-length xs))
          ∙ sym (get_or-append_seam xs x [] 0)
          ∙ sym (row_at (xs ++ x ∷ []) (length xs) l)
          ∙ ap (λ k. get_or (row (xs ++ x ∷ [])) k 0) (sym e)
      by false q =
          let e = eqb-false i (length xs) q in
          get_or-set_other (row xs) (length xs) i x 0 e ∙ row_at xs i h ∙ sym (more-at xs x i e) ∙ sym (row_at (xs ++ x ∷ []) i h)

  row_more : put (row xs) (length xs) x ≡ row (xs ++ x ∷ [])
  unfolding put
  row_more = by (ltb (length xs) 80) refl
    where
      by : (b : Bool) → ltb (length xs) 80 ≡ b → pick b (set (row xs) (length xs) x) (row xs) ≡ row (xs ++ x ∷ [])
      by true q =
          let n = length-set (row xs) (length xs) x ∙ row-length xs in
          ext_get_or 0 _ _ (n ∙ sym (row-length (xs ++ x ∷ []))) (λ i h. grown-at (ltb-true (length xs) 80 q) i (omega (arith, n, h)))
      by false q =
          let l = ltb-false (length xs) 80 q in
          let n = row-length xs in
          ext_get_or 0 _ _ (n ∙ sym (row-length (xs ++ x ∷ [])))
          (λ i h. let j : i < 80 = omega (arith, n, h) in
          row_at xs i j ∙ sym (more-at xs x i (λ e. omega (arith, l, j, e))) ∙ sym (row_at (xs ++ x ∷ []) i j))

laid-row : (ys xs : List ℕ) → laid (row xs) (length xs) ys ≡ row (xs ++ ys)
unfolding laid
laid-row [] xs = ap row (sym (append-nil xs))
laid-row (y ∷ ys) xs =
    ap (λ t. laid t (length xs + 1) ys) (row_more xs y)
    ∙ ap (λ k. laid (row (xs ++ y ∷ [])) k ys) (sym (length-append xs (y ∷ [])))
    ∙ laid-row ys (xs ++ y ∷ [])
    ∙ ap row (append_assoc xs (y ∷ []) ys)

pub laid-zeros : (ys : List ℕ) → laid (zeros 80) 0 ys ≡ row ys
laid-zeros ys = ap (λ t. laid t 0 ys) first ∙ laid-row ys []
  where
    first : zeros 80 ≡ row []
    first = ext_get_or 0 _ _ (length-replicate {A = ℕ} 80 0 ∙ sym (row-length []))
        (λ i h. zeros-at 80 i ∙ sym (row_at [] i (omega (arith, length-replicate {A = ℕ} 80 0, h))))
