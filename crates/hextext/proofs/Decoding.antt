-- Laws of decoding: what a turn of the loop stores, where it ends, and how many bytes there are. Assumes nothing.
use mathlib.Core.Path.{◌≡◌, refl, sym, ap, ◌∙◌}
use mathlib.Core.Bool.{Bool, true, false}
use mathlib.Core.List.{List, [], ◌∷◌}
use Prim.Native.Nat.{ℕ, suc, ◌+◌, ◌<◌, ◌≤◌}
use native.Mathlib.Nat.{add-zero, zero-add}
use native.Mathlib.Numerals.{add-one}
use native.Mathlib.Omega.{arith}
use borrow.Author.Tests.{lt-ltb, leb-false}
use lib.Dec.{eqb}
use lib.ListN.{length, get_or, drop, drop_of_length-le, length-append}
use lib.Seq.{drop-cons, sets}
use Rattle.hextext.specs.declared.Scan.{Scan}
use Rattle.hextext.specs.Scanning.{start, second, step, scan}
use Rattle.hextext.specs.Decoding.{completes, made, full, bytes_from, bytes_of, stored, ending, decoded}
use Rattle.hextext.proofs.Scanning.{more-below, step-whole, step_same}

-- ---- full

pub full-not : (s : Scan) → full s ≡ false → s.count < 8193
unfolding full
full-not s h = by (eqb s.error 0) refl
  where
    by : (t : Bool) → eqb s.error 0 ≡ t → s.count < 8193
    by true e = leb-false 8193 s.count (rw e at h)
    by false e = let g = rw e at h in let z : ◌≡◌ {A = ℕ} 0 1 = cc in omega arith

-- ---- second

second-count : (s : Scan) → s.count < 8193 → (second s).count ≡ suc s.count
unfolding second
second-count s c = more-below s.count (omega arith)

-- ---- bytes_from

module _ (s : Scan) where
  pub bytes-stopped : (l : List ℕ) → full s ≡ true → bytes_from s l ≡ []
  unfolding bytes_from
  bytes-stopped [] h = refl
  bytes-stopped (b ∷ bs) h = rw h

  pub bytes-done : (text : List ℕ) (i : ℕ) → length text ≤ i → bytes_from s (drop i text) ≡ []
  unfolding bytes_from
  bytes-done text i l = rw (drop_of_length-le text l)

  -- The byte that a character makes is stored, and the rest is still to come.
  pub store-turn :
      (l : List ℕ) (b : ℕ) (bs : List ℕ) → full s ≡ false →
      sets (stored l s b) (step s b).count (bytes_from (step s b) bs) ≡ sets l s.count (bytes_from s (b ∷ bs))
  unfolding bytes_from made stored
  store-turn l b bs h = by (completes s b) refl
    where
      by : (t : Bool) → completes s b ≡ t →
          sets (stored l s b) (step s b).count (bytes_from (step s b) bs) ≡ sets l s.count (bytes_from s (b ∷ bs))
      by true e =
          let c = full-not s h in
          let n : (step s b).count ≡ suc s.count = ap (λ (x : Scan). x.count) (step-whole s b e) ∙ second-count s c in
          rw (h, e, lt-ltb s.count 8193 c, n)
      by false e = rw (h, e, step_same s b e)

  pub bytes-turn :
      (l text : List ℕ) (i : ℕ) → i < length text → full s ≡ false →
      sets (stored l s (get_or text i 0)) (step s (get_or text i 0)).count
      (bytes_from (step s (get_or text i 0)) (drop (i + 1) text))
      ≡ sets l s.count (bytes_from s (drop i text))
  bytes-turn l text i h f = rw (drop-cons text i 0 h, add-one i) (store-turn l (get_or text i 0) (drop (suc i) text) f)

-- ---- decoded: its length is that of the bytes, at most 8,193 of them

count-more : (s : Scan) (b : ℕ) → full s ≡ false → (step s b).count ≡ s.count + length (made s b)
unfolding made
count-more s b h = by (completes s b) refl
  where
    by : (t : Bool) → completes s b ≡ t → (step s b).count ≡ s.count + length (made s b)
    by true e =
        let n : (step s b).count ≡ suc s.count =
        ap (λ (x : Scan). x.count) (step-whole s b e) ∙ second-count s (full-not s h) in
        rw e (omega arith)
    by false e = let n = step_same s b e in rw e (omega arith)

count-all : (l : List ℕ) (s : Scan) → (scan full s l).count ≡ s.count + length (bytes_from s l)
unfolding scan bytes_from
count-all [] s = sym (add-zero s.count)
count-all (b ∷ l) s = by (full s) refl (count-all l (step s b))
  where
    by :
        (t : Bool) → full s ≡ t → (scan full (step s b) l).count ≡ (step s b).count + length (bytes_from (step s b) l) →
        (scan full s (b ∷ l)).count ≡ s.count + length (bytes_from s (b ∷ l))
    by true f e = rw f (sym (add-zero s.count))
    by false f e =
        let n = count-more s b f in
        let m = length-append (made s b) (bytes_from (step s b) l) in
        rw f (omega arith)

pub decoded-length : (text : List ℕ) → (decoded text).length ≡ length (bytes_of text)
unfolding decoded ending bytes_of start
decoded-length text = count-all text start ∙ zero-add _

count-few : (l : List ℕ) (s : Scan) → s.count ≤ 8193 → (scan full s l).count ≤ 8193
unfolding scan
count-few [] s h = h
count-few (b ∷ l) s h = by (full s) refl (count-few l (step s b))
  where
    by : (t : Bool) → full s ≡ t → ((step s b).count ≤ 8193 → (scan full (step s b) l).count ≤ 8193) → (scan full s (b ∷ l)).count ≤ 8193
    by true f r = rw f h
    by false f r = rw f (r (step-few f (completes s b) refl))
      where
        step-few : full s ≡ false → (t : Bool) → completes s b ≡ t → (step s b).count ≤ 8193
        step-few f true e =
            let n : (step s b).count ≡ suc s.count =
            ap (λ (x : Scan). x.count) (step-whole s b e) ∙ second-count s (full-not s f) in
            let c = full-not s f in
            omega arith
        step-few f false e = let n = step_same s b e in omega arith

pub decoded-few : (text : List ℕ) → (decoded text).length ≤ 8193
unfolding decoded ending start
decoded-few text = count-few text start (omega arith)
